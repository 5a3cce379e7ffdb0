mod SessionLemmas
mod EditLemmas
pub mod OpenViewLemmas
mod StateLemmas
mod PrintLemmas
mod StepLemmas
mod ResizeLemmas
