use Rattle.std.proofs.Common.{◌<◌, length, arith, rules}
use Rattle.std.proofs.lemmas.List.{nil_from_length}
use Rattle.std.proofs.lemmas.Bool.Decides.{nat_tests}
use Rattle.mapf_grid.proofs.lines.Parting.{words-nothing_before, words-last}
use Rattle.mapf_grid.proofs.words.last_word.Goals as goal

pub returns-then-is_empty-clause-words : goal.returns-then-is_empty-clause-words
returns-then-is_empty-clause-words c = words-nothing_before c.trim_end-line.ensures.cut (nil_from_length _ (grind (arith, nat_tests)))

pub returns-clause-words : goal.returns-clause-words
returns-clause-words c =
    let some : 0 < length c.trim_end-line.result.now = search rules in
    let e = words-last c.last_word_start.result c.trim_end-line.ensures.cut some c.last_word_start.ensures.within (c.trim_end-line.ensures.ends some) c.last_word_start.ensures.word c.last_word_start.ensures.blank in
    rw (c.split_at.ensures.front, c.split_at.ensures.back) e
