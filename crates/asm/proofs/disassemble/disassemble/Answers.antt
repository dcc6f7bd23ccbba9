use Rattle.std.proofs.Common.{rules, ◌≡◌, Some}
use Rattle.insn.specs.Read.{decode_on}
use Rattle.asm.proofs.Letters.{row_fits, listed_as}
use Rattle.asm.proofs.disassemble.disassemble.Goals as goal

pub print_row-requires : goal.print_row-requires
print_row-requires c = let e : decode_on c.args.profile c.args.word ≡ Some c.in_ok-i.i = search rules in (row_fits _ _ _ e c.row_of.ensures, c.if-out-lt64.false)

pub returns : goal.returns
returns c = let e : decode_on c.args.profile c.args.word ≡ Some c.in_ok-i.i = search rules in listed_as _ _ _ _ _ _ _ _ c.if-out-lt64.false e c.row_of.ensures c.queue_of.ensures c.print_row.ensures c.is_plain.ensures
