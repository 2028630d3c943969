pub mod Alike
pub mod Printed
pub mod Shapes
