-- `marked::step::load_store_marked` meets its contract: what is loaded tells a reach as its access does. Assumes nothing.
use Rattle.machine.specs.LoadStore.{load_store_of, load_at, load_double_at}
use Rattle.marked.proofs.Marks.{load_reaches_lem, double_reaches_lem}
use mathlib.Core.Path.{refl}
use Rattle.marked.proofs.step.load_store_marked.Goals as goal

pub returns-in-Load : goal.returns-in-Load
unfolding load_store_of load_at
returns-in-Load c = rw (c.in-Load.is, ← c.offset_ea-ea.ensures, load_reaches_lem _ _ _, ← c.load-got.ensures) (c.loaded_marked.ensures, refl)

pub returns-in-LoadIndexed : goal.returns-in-LoadIndexed
unfolding load_store_of load_at
returns-in-LoadIndexed c = rw (c.in-LoadIndexed.is, ← c.indexed_ea-ea.ensures, load_reaches_lem _ _ _, ← c.load-got-in-LoadIndexed.ensures) (c.loaded_marked-in-LoadIndexed.ensures, refl)

pub returns-in-LoadDouble : goal.returns-in-LoadDouble
unfolding load_store_of load_double_at
returns-in-LoadDouble c = rw (c.in-LoadDouble.is, ← c.offset_ea-ea-in-LoadDouble.ensures, double_reaches_lem _ _, ← c.load_double-got.ensures) (rw (c.mark.ensures, c.loaded_double.ensures, c.reaches_past.ensures), refl)
