pub mod Keys
pub mod SettingsText
