-- What a hint is made of.
use Rattle.std.specs.Prelude.{◌≡◌, ℕ, Bool, true, ◌==◌, ◌&&◌, ◌||◌, nat_le, List}
use Rattle.std.specs.List.{count_by, list_all}

-- a character of ASCII that is shown
abbrev pub is_letter : ℕ → Bool
is_letter byte = nat_le 32 byte && nat_le byte 126

-- a byte of a hint: such a character, or LF
abbrev pub is_shown : ℕ → Bool
is_shown byte = is_letter byte || byte == 10

-- all bytes of a text are such
abbrev pub AreShown : List ℕ → Type 0
AreShown text = list_all is_shown text ≡ true

-- how many lines of a text are ended
abbrev pub feeds : List ℕ → ℕ
feeds text = count_by (λ byte. byte == 10) text
