use Rattle.std.proofs.Common.{◌≡◌, ◌<◌, ◌∷◌, [], length, arith, refl, ap, ◌∙◌, length-append}
use Rattle.std.proofs.lemmas.List.{nil_from_length}
use Rattle.std.proofs.lemmas.Bool.Decides.{nat_tests}
use Rattle.mapf_grid.specs.Lines.{words}
use Rattle.mapf_grid.proofs.scenario.RowCuts.{EndsWithWords-one, EndsWithWords-more, HasName-between, words-trimmed, words-some}
use Rattle.mapf_grid.proofs.scenario.fields.Fields.of.Goals as goal

pub returns-then-is_empty : goal.returns-then-is_empty
returns-then-is_empty c =
    let cut1 = EndsWithWords-one c.in_ok-before.ensures.parted c.in_ok-before.ensures.words in
    let cut2 = EndsWithWords-more cut1 c.in_ok-before-2.ensures.parted c.in_ok-before-2.ensures.words in
    let cut3 = EndsWithWords-more cut2 c.in_ok-before-3.ensures.parted c.in_ok-before-3.ensures.words in
    let cut4 = EndsWithWords-more cut3 c.in_ok-before-4.ensures.parted c.in_ok-before-4.ensures.words in
    let cut5 = EndsWithWords-more cut4 c.in_ok-before-5.ensures.parted c.in_ok-before-5.ensures.words in
    let cut6 = EndsWithWords-more cut5 c.in_ok-before-6.ensures.parted c.in_ok-before-6.ensures.words in
    let cut7 = EndsWithWords-more cut6 c.in_ok-before-7.ensures.parted c.in_ok-before-7.ensures.words in
    let none : c.trim-map_name.result.now ≡ [] = nil_from_length _ (grind (arith, nat_tests)) in
    let front : words c.in_ok-before-7.before.now ≡ [] = words-trimmed c.trim-map_name.ensures ∙ ap words none in
    omega (arith, ap length c.in_ok-bucket.ensures.words, ap length cut7.in_words, length-append (words c.in_ok-before-7.before.now), ap length front)

pub returns : goal.returns
returns c =
    let cut1 = EndsWithWords-one c.in_ok-before.ensures.parted c.in_ok-before.ensures.words in
    let cut2 = EndsWithWords-more cut1 c.in_ok-before-2.ensures.parted c.in_ok-before-2.ensures.words in
    let cut3 = EndsWithWords-more cut2 c.in_ok-before-3.ensures.parted c.in_ok-before-3.ensures.words in
    let cut4 = EndsWithWords-more cut3 c.in_ok-before-4.ensures.parted c.in_ok-before-4.ensures.words in
    let cut5 = EndsWithWords-more cut4 c.in_ok-before-5.ensures.parted c.in_ok-before-5.ensures.words in
    let cut6 = EndsWithWords-more cut5 c.in_ok-before-6.ensures.parted c.in_ok-before-6.ensures.words in
    let cut7 = EndsWithWords-more cut6 c.in_ok-before-7.ensures.parted c.in_ok-before-7.ensures.words in
    let some : 0 < length c.trim-map_name.result.now = grind (arith, nat_tests) in
    record {
      middle = words c.in_ok-before-7.before.now;
      some = omega (arith, ap length (words-trimmed c.trim-map_name.ensures), words-some c.trim-map_name.result.now some (c.trim-map_name.ensures.begins some));
      in_words = c.in_ok-bucket.ensures.words ∙ ap (λ w. c.in_ok-bucket.bucket.now ∷ w) cut7.in_words;
      name = HasName-between c.in_ok-bucket.ensures.parted c.in_ok-bucket.ensures.words cut7 refl c.trim-map_name.ensures some;
    }
