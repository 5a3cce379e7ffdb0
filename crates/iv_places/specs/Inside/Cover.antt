-- Records that are apart.
use Rattle.std.specs.Prelude.{◌≡◌, ◌<◌, List}
use Rattle.std.specs.List.{AllPairs}
use Rattle.iv_lines.specs.RecordValue.{RecordValue}

-- of each two records of one sequence the first stops before the other starts: they share no position, and aren't book-ended
abbrev pub AreApart : List RecordValue → Type 0
AreApart records = AllPairs (λ x y. x.seq ≡ y.seq → x.stop < y.start) records
