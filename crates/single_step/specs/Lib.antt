pub mod SingleStep
