mod Ranges
mod Lengths
mod UnitLengths
mod SymbolSteps
mod FileLengths
mod UnitRanges
mod Placing
mod Standing
