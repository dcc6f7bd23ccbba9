-- What is fetched and read at an address: the word and its form. This serves code alone.
use Rattle.std.specs.Prelude.{ℕ, List, Option, Some, None, Ok, Err}
use Rattle.memory.specs.Load.{Loaded, fetch_of}
use Rattle.memory.specs.declared.access.Fault.{Fault}
use Rattle.insn.specs.Read.{decode_on}
use Rattle.insn.specs.declared.instr.Instr.{Instr}
use Rattle.insn.specs.declared.profile.Profile.{Profile}
use Rattle.reading.specs.Form.{form_of}
use Rattle.reading.specs.declared.form.Form.{Form}
use Rattle.reading.specs.declared.reading.Reading.{Reading}

abbrev pub form_in : Option Instr → Form
form_in (Some i) = form_of i
form_in None = Form.Illegal

abbrev pub read_of : Profile → ℕ → Reading
read_of p w = record { word = w; form = form_in (decode_on p w) }

abbrev pub reading_in : Profile → Loaded → Reading
reading_in p (Ok w) = read_of p w
reading_in p (Err Fault.Unaligned) = record { word = 0; form = Form.Unaligned }
reading_in p (Err Fault.Outside) = record { word = 0; form = Form.Outside }

unfoldable pub reading_of : Profile → List ℕ → ℕ → Reading
reading_of p m a = reading_in p (fetch_of m a)
