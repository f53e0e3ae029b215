pub mod AimPromises
pub mod SeekPromises
