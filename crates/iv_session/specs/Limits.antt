-- The limits of a script: how many lines it may have, and how many bytes a line.
use Rattle.std.specs.Prelude.{◌≡◌, ℕ, ◌+◌, ◌≤◌, ◌<◌, ◌==◌, ◌||◌, ◌++◌, ◌∷◌, [], ◌⊎◌, ⊤, All, List, Bool, nat_lt, cond, Option, None, Some, length}
use Rattle.iv_lines.specs.Bytes.{line_feed}

-- one byte more in the first of these lines; if there is none, it is a line of its own
abbrev pub one_longer : List ℕ → List ℕ
one_longer [] = 1 ∷ []
one_longer (size ∷ sizes) = (size + 1) ∷ sizes

-- how many bytes each line of a text has before its LF, a CR included; a last line without LF has those up to the end
abbrev pub line_sizes : List ℕ → List ℕ
line_sizes [] = []
line_sizes (b ∷ bs) = cond (b == line_feed) (0 ∷ line_sizes bs) (one_longer (line_sizes bs))

-- these bytes are whole lines: there are none, or the last of them is an LF
abbrev pub AreWholeLines : List ℕ → Type 0
AreWholeLines bytes = (bytes ≡ []) ⊎ ((front : List ℕ) × (bytes ≡ front ++ line_feed ∷ []))

-- lines of these sizes keep both limits: they are not too many, and none has too many bytes
abbrev pub AreWithin : ℕ → ℕ → List ℕ → Type 0
AreWithin most_lines most sizes = (length sizes ≤ most_lines) × All (λ size. size ≤ most) sizes

-- the first of these lines, which has the number n, keeps both limits; if there is none, there is nothing to keep
abbrev pub Keeps : ℕ → ℕ → ℕ → List ℕ → Type 0
Keeps most_lines most n [] = ⊤
Keeps most_lines most n (size ∷ sizes) = (n ≤ most_lines) × (size ≤ most)

-- the first of these lines, which has the number n, passes a limit: it is one too many, or has too many bytes
abbrev pub Passes : ℕ → ℕ → ℕ → List ℕ → Type 0
Passes most_lines most n [] = ⊥
Passes most_lines most n (size ∷ sizes) = (most_lines < n) ⊎ (most < size)

-- whether a line passes a limit that has this number and this size
abbrev pub is_over : ℕ → ℕ → ℕ → ℕ → Bool
is_over most_lines most n size = nat_lt most_lines n || nat_lt most size

-- the number of the first line that passes a limit, if one does; the first of these lines has the number n
abbrev pub first_over : ℕ → ℕ → ℕ → List ℕ → Option ℕ
first_over most_lines most n [] = None
first_over most_lines most n (size ∷ sizes) =
    cond (is_over most_lines most n size) (Some n) (first_over most_lines most (n + 1) sizes)
