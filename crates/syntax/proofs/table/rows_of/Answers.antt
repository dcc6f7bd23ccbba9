use mathlib.Core.Path.{refl}
use borrow.Author.Rules.{rules}
use Rattle.insn.specs.Valid.{reg_of, is_spr, read_only}
use Rattle.expr.specs.Grammar.{is_digit}
use Rattle.expr.specs.Evaluate.{digit_of}
use Rattle.expr.specs.Digits.{digits_from, grown}
use Rattle.syntax.specs.Text.{bytes}
use Rattle.syntax.specs.Syntax.{letters, commas, spelt, items_of, shape_of}
use Rattle.syntax.specs.Take.{apart, well_made}
use Rattle.syntax.specs.Rows.{samples, samples_a, samples_b, samples_c, samples_d, samples_e, samples_l, samples_m, samples_n, samples_o, samples_r, samples_s, samples_t, samples_w, samples_x}
use Rattle.syntax.specs.Inside.{range_of, operand_at, item_at, pattern_of, pattern_at, word_at, eq_items, operand_count, wide, well_formed, row_matches, matches_from, matches}
use Rattle.syntax.proofs.Letters.{none_given, letter_gives, core_rows}
use Rattle.syntax.proofs.table.rows_of.Goals as goal

pub returns-in-97 : goal.returns-in-97
unfolding samples samples_a matches matches_from row_matches well_formed pattern_at pattern_of item_at operand_at range_of word_at digits_from grown is_digit digit_of eq_items operand_count wide well_made apart shape_of items_of spelt commas letters bytes reg_of is_spr read_only
returns-in-97 c = letter_gives _ _ _ _ c.in-97.is (record { right = refl; whole = refl })

pub returns-in-98 : goal.returns-in-98
unfolding samples samples_b matches matches_from row_matches well_formed pattern_at pattern_of item_at operand_at range_of word_at digits_from grown is_digit digit_of eq_items operand_count wide well_made apart shape_of items_of spelt commas letters bytes reg_of is_spr read_only
returns-in-98 c = letter_gives _ _ _ _ c.in-98.is (record { right = refl; whole = refl })

pub returns-in-99 : goal.returns-in-99
unfolding samples samples_c matches matches_from row_matches well_formed pattern_at pattern_of item_at operand_at range_of word_at digits_from grown is_digit digit_of eq_items operand_count wide well_made apart shape_of items_of spelt commas letters bytes reg_of is_spr read_only
returns-in-99 c = letter_gives _ _ _ _ c.in-99.is (record { right = refl; whole = refl })

pub returns-in-100 : goal.returns-in-100
unfolding samples samples_d matches matches_from row_matches well_formed pattern_at pattern_of item_at operand_at range_of word_at digits_from grown is_digit digit_of eq_items operand_count wide well_made apart shape_of items_of spelt commas letters bytes reg_of is_spr read_only
returns-in-100 c = letter_gives _ _ _ _ c.in-100.is (record { right = refl; whole = refl })

pub returns-in-101 : goal.returns-in-101
unfolding samples samples_e matches matches_from row_matches well_formed pattern_at pattern_of item_at operand_at range_of word_at digits_from grown is_digit digit_of eq_items operand_count wide well_made apart shape_of items_of spelt commas letters bytes reg_of is_spr read_only
returns-in-101 c = letter_gives _ _ _ _ c.in-101.is (record { right = refl; whole = refl })

pub returns-in-108 : goal.returns-in-108
unfolding samples samples_l matches matches_from row_matches well_formed pattern_at pattern_of item_at operand_at range_of word_at digits_from grown is_digit digit_of eq_items operand_count wide well_made apart shape_of items_of spelt commas letters bytes reg_of is_spr read_only
returns-in-108 c = letter_gives _ _ _ _ c.in-108.is (core_rows _ _ 108 _ _ c.of_core.ensures (record { right = refl; whole = refl }) (record { right = refl; whole = refl }))

pub returns-in-109 : goal.returns-in-109
unfolding samples samples_m matches matches_from row_matches well_formed pattern_at pattern_of item_at operand_at range_of word_at digits_from grown is_digit digit_of eq_items operand_count wide well_made apart shape_of items_of spelt commas letters bytes reg_of is_spr read_only
returns-in-109 c = letter_gives _ _ _ _ c.in-109.is (core_rows _ _ 109 _ _ c.of_core-in-109.ensures (record { right = refl; whole = refl }) (record { right = refl; whole = refl }))

pub returns-in-110 : goal.returns-in-110
unfolding samples samples_n matches matches_from row_matches well_formed pattern_at pattern_of item_at operand_at range_of word_at digits_from grown is_digit digit_of eq_items operand_count wide well_made apart shape_of items_of spelt commas letters bytes reg_of is_spr read_only
returns-in-110 c = letter_gives _ _ _ _ c.in-110.is (record { right = refl; whole = refl })

pub returns-in-111 : goal.returns-in-111
unfolding samples samples_o matches matches_from row_matches well_formed pattern_at pattern_of item_at operand_at range_of word_at digits_from grown is_digit digit_of eq_items operand_count wide well_made apart shape_of items_of spelt commas letters bytes reg_of is_spr read_only
returns-in-111 c = letter_gives _ _ _ _ c.in-111.is (record { right = refl; whole = refl })

pub returns-in-114 : goal.returns-in-114
unfolding samples samples_r matches matches_from row_matches well_formed pattern_at pattern_of item_at operand_at range_of word_at digits_from grown is_digit digit_of eq_items operand_count wide well_made apart shape_of items_of spelt commas letters bytes reg_of is_spr read_only
returns-in-114 c = letter_gives _ _ _ _ c.in-114.is (core_rows _ _ 114 _ _ c.of_core-in-114.ensures (record { right = refl; whole = refl }) (record { right = refl; whole = refl }))

pub returns-in-115 : goal.returns-in-115
unfolding samples samples_s matches matches_from row_matches well_formed pattern_at pattern_of item_at operand_at range_of word_at digits_from grown is_digit digit_of eq_items operand_count wide well_made apart shape_of items_of spelt commas letters bytes reg_of is_spr read_only
returns-in-115 c = letter_gives _ _ _ _ c.in-115.is (core_rows _ _ 115 _ _ c.of_core-in-115.ensures (record { right = refl; whole = refl }) (record { right = refl; whole = refl }))

pub returns-in-116 : goal.returns-in-116
unfolding samples samples_t matches matches_from row_matches well_formed pattern_at pattern_of item_at operand_at range_of word_at digits_from grown is_digit digit_of eq_items operand_count wide well_made apart shape_of items_of spelt commas letters bytes reg_of is_spr read_only
returns-in-116 c = letter_gives _ _ _ _ c.in-116.is (record { right = refl; whole = refl })

pub returns-in-119 : goal.returns-in-119
unfolding samples samples_w matches matches_from row_matches well_formed pattern_at pattern_of item_at operand_at range_of word_at digits_from grown is_digit digit_of eq_items operand_count wide well_made apart shape_of items_of spelt commas letters bytes reg_of is_spr read_only
returns-in-119 c = letter_gives _ _ _ _ c.in-119.is (record { right = refl; whole = refl })

pub returns-in-120 : goal.returns-in-120
unfolding samples samples_x matches matches_from row_matches well_formed pattern_at pattern_of item_at operand_at range_of word_at digits_from grown is_digit digit_of eq_items operand_count wide well_made apart shape_of items_of spelt commas letters bytes reg_of is_spr read_only
returns-in-120 c = letter_gives _ _ _ _ c.in-120.is (record { right = refl; whole = refl })

pub returns-in_default : goal.returns-in_default
returns-in_default c = none_given _ _ (search rules)
