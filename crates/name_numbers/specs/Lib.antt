pub mod RecentNames
