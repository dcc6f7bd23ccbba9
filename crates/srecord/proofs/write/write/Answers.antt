-- `srecord::write::write` meets its contract: 1, 8, or none. Assumes nothing.
use native.Mathlib.Omega.{arith}
use mathlib.Core.Path.{sym, ◌∙◌}
use Rattle.memory.proofs.Laws.{sized_bounds}
use Rattle.srecord.proofs.Text.{file_left, write_unsized, write_short, write_whole}
use Rattle.srecord.proofs.write.write.Goals as goal

pub returns-then-not-sized : goal.returns-then-not-sized
returns-then-not-sized c = write_unsized _ _ (sym c.sized.ensures ∙ c.if-not-sized.true)

pub overflow_mul-room : goal.overflow_mul-room
overflow_mul-room c = omega (arith, sized_bounds _ (sym c.sized.ensures ∙ c.if-not-sized.false))

pub overflow_add-room : goal.overflow_add-room
overflow_add-room c = omega (arith, sized_bounds _ (sym c.sized.ensures ∙ c.if-not-sized.false))

pub returns-then-out-room : goal.returns-then-out-room
returns-then-out-room c = write_short _ _ (sym c.sized.ensures ∙ c.if-not-sized.false) c.if-out-room.true

pub put_blocks-requires-clause-memory_len_bound : goal.put_blocks-requires-clause-memory_len_bound
put_blocks-requires-clause-memory_len_bound c = (sized_bounds _ (sym c.sized.ensures ∙ c.if-not-sized.false)).1

pub returns : goal.returns
returns c = let w = write_whole _ _ (sym c.sized.ensures ∙ c.if-not-sized.false) c.if-out-room.false in
    (w.0, rw (c.put_end.ensures, c.put_blocks.ensures, file_left _ _ c.if-out-room.false) w.1)
