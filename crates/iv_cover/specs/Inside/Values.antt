-- The values of columns, as the program holds them.
use Rattle.std.specs.Prelude.{ℕ, List}
use Rattle.iv_cover.specs.declared.value.Kind.{Kind}
use Rattle.iv_cover.specs.declared.value.Kind.TheVariants.{Text, Position}

-- the text of a value
abbrev pub kind_text : Kind → List ℕ
kind_text (Text text) = text.now
kind_text (Position digits) = digits
