-- `capture::words::words_of_state` meets its contract: two parts are the whole list. Assumes nothing.
use borrow.Author.Rules.{rules}
use mathlib.Core.Path.{refl}
use Rattle.capture.specs.Words.{words_of}
use Rattle.capture.proofs.Laws.{behind}
use Rattle.capture.proofs.words.words_of_state.Goals as goal

pub returns : goal.returns
unfolding words_of
returns c = rw (c.copy_from_slice-2.ensures.after, c.copy_from_slice.ensures.after) (behind 16 20 c.args.state.gpr _ _ (search rules) refl refl)
