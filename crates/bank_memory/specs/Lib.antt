pub mod Stamps
pub mod Rising
pub mod BankLog
pub mod Stored
