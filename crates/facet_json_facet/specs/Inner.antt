-- Lemmas that the laws of private traits want here.
pub mod ItemsInSight
pub mod Numbers
pub mod Taking
