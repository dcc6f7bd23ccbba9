-- Bytes, halfwords and words (2.4.1).
use Rattle.std.specs.Prelude.{ℕ}
use Rattle.word.specs.declared.width.Width.{Width}

abbrev pub bytes : Width → ℕ
bytes Width.Byte = 1
bytes Width.Half = 2
bytes Width.Word = 4
