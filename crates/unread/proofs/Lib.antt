mod Settling
mod UnderWay
mod Calls
mod Answered
pub mod Promise
