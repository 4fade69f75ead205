pub mod BegunCalls
pub mod BegunSteps
pub mod ByteLists
pub mod FloatTexts
pub mod Spellings
pub mod StepsRead
