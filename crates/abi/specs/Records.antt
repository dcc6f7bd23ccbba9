-- What the C functions answer of S-records.
use Rattle.std.specs.Prelude.{ℕ, ◌-◌, ◌^◌, min, List, length, Ok, Err}
use Rattle.srecord.specs.File.{Verdict, read_of as srec_read}
use Rattle.srecord.specs.Write.{written_of as srec_written}
use Rattle.abi.specs.Answer.{refused_of, answer_of}

-- the number of a line, as far as it fits beside a refusal (docs/DECISIONS.md D43)
abbrev pub line_count : ℕ → ℕ
line_count k = min k (2 ^ 32 - 1)

-- the refusal and the line that it is given for; 0 where nothing is refused
abbrev pub rejected_of : Verdict → ℕ
rejected_of (Ok u) = 0
rejected_of (Err j) = refused_of j.refusal (line_count j.line)

-- S-records read into m, and written
abbrev pub srec_read_answer : List ℕ → List ℕ → ℕ
srec_read_answer m f = rejected_of (srec_read (length m) f)

abbrev pub srec_write_answer : List ℕ → List ℕ → ℕ
srec_write_answer m out = answer_of (srec_written m out)
