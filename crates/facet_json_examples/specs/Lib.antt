pub mod AccountLaws
pub mod Accounts
pub mod ContactLaws
pub mod Contacts
pub mod Driving
pub mod RecordLaws
pub mod Records
