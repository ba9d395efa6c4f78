pub mod Lines
pub mod Grammar
pub mod Opening
pub mod Text
pub mod TraceLists
pub mod Printing
pub mod MadeTrace
pub mod Counting
