pub mod Named
pub mod Wide
pub mod Agree
pub mod Told
pub mod Put
pub mod Rescanned
