-- `capture::words::words_at` meets its contract: each word is what the closure reads. Assumes nothing.
use Prim.Native.Nat.{◌+◌, ◌*◌, ◌<◌}
use mathlib.Core.Path.{◌≡◌, sym, ◌∙◌}
use lib.ListN.{get_or}
use borrow.Author.Rules.{rules}
use Rattle.std.proofs.Common.{tests}
use Rattle.std.proofs.lemmas.List.{same_lists}
use Rattle.word.specs.declared.width.Width.{Width}
use Rattle.memory.specs.Load.{value_at}
use Rattle.capture.proofs.Codec.{words_length}
use Rattle.capture.proofs.Laws.{words_place}
use Rattle.capture.proofs.words.words_at.Goals as goal

pub returns : goal.returns
returns c = same_lists _ _ (c.from_fn.ensures.items.long ∙ sym (words_length 36 c.args.at c.args.file.now)) (λ k d h.
    let l : k < 36 = rw c.from_fn.ensures.items.long at h in
    let q = c.from_fn.ensures.items.at k d l in
    let e : get_or c.from_fn.result k d ≡ value_at Width.Word c.args.file.now (c.args.at + 4 * k) = search (rules, tests, q) in
    e ∙ sym (words_place 36 c.args.at k c.args.file.now d l))
