mod FileLemmas
mod RunLemmas
mod DoneLemmas
mod SoundLemmas
