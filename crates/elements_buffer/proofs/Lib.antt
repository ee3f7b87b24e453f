pub mod ElementsBack
