pub mod StatedText
pub mod Fitting
pub mod Printed
pub mod Meaning
