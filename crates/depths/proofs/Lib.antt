-- Why the number of parts held is what the ways weigh.
pub mod Upper
pub mod Lower
pub mod Fits
pub mod Rising
pub mod Numbers
pub mod Decided
