-- That the code writes the lines by number.
pub mod MemberLaws
pub mod LineLaws
pub mod LabelledLines
