-- The limits of the program.
use Rattle.std.specs.Prelude.{ℕ}

-- how many bytes a file may have
abbrev pub most_file_bytes : ℕ
most_file_bytes = 4294967295

-- how many bytes a line of a script may have before its LF, a CR included
abbrev pub most_line_bytes : ℕ
most_line_bytes = 1048576
