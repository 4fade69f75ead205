pub mod LineFaults
