pub mod BoundPromise
pub mod EndedNodes
pub mod SidesPromise
