pub mod MixedNumbers
