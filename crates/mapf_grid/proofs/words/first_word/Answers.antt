use Rattle.std.proofs.Common.{◌<◌, length, arith, rules}
use Rattle.std.proofs.lemmas.List.{nil_from_length}
use Rattle.std.proofs.lemmas.Bool.Decides.{nat_tests}
use Rattle.mapf_grid.proofs.lines.Parting.{words-nothing_behind, words-first, IsPartedBack-first}
use Rattle.mapf_grid.proofs.words.first_word.Goals as goal

pub returns-then-is_empty-clause-words : goal.returns-then-is_empty-clause-words
returns-then-is_empty-clause-words c = words-nothing_behind c.trim_start-line.ensures.cut (nil_from_length _ (grind (arith, nat_tests)))

pub returns-clause-words : goal.returns-clause-words
returns-clause-words c =
    let some : 0 < length c.trim_start-line.result.now = search rules in
    let e = words-first c.first_word_end.result c.trim_start-line.ensures.cut some c.first_word_end.ensures.within (c.trim_start-line.ensures.begins some) c.first_word_end.ensures.word c.first_word_end.ensures.blank in
    rw (c.split_at.ensures.front, c.split_at.ensures.back) e

pub returns-clause-parted : goal.returns-clause-parted
returns-clause-parted c =
    rw c.split_at.ensures.back (IsPartedBack-first c.first_word_end.result c.trim_start-line.ensures.cut c.first_word_end.ensures.blank)
