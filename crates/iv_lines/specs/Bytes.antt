-- The bytes that have a meaning of their own in files, by their names.
use Rattle.std.specs.Prelude.{ℕ}

abbrev pub nul : ℕ
nul = 0

abbrev pub tab : ℕ
tab = 9

abbrev pub line_feed : ℕ
line_feed = 10

abbrev pub carriage_return : ℕ
carriage_return = 13

abbrev pub space : ℕ
space = 32

abbrev pub number_sign : ℕ
number_sign = 35

abbrev pub plus_sign : ℕ
plus_sign = 43

abbrev pub minus_sign : ℕ
minus_sign = 45

abbrev pub full_stop : ℕ
full_stop = 46

abbrev pub comma : ℕ
comma = 44
