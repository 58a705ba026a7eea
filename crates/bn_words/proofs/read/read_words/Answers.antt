use Rattle.std.proofs.Common.{◌≡◌, ◌<◌, ◌≤◌, length, arith, subst, Global}
use Rattle.std.specs.String.{string_bytes}
use Rattle.std.proofs.lemmas.Bool.Decides.{nat_tests}
use Rattle.bn_words.specs.Words.{AreRead}
use Rattle.bn_words.proofs.NoFormLemmas.{eight_texts, five_texts, nine_texts, other_length, six_texts, seven_texts}
use Rattle.bn_words.proofs.read.read_words.Goals as goal

pub returns-in-len5 : goal.returns-in-len5
returns-in-len5 c =
    let n : length c.args.words.now ≡ 5 = omega (arith, c.in-len5.len_at_least, c.in-len5.len_below) in
    let texts = five_texts (string_bytes {Z = Global}) c.args.words.now c.name-item-then-words-lt6.result
    c.first-item-then-words-lt6.result c.second-item-then-words-lt6.result c.third-item.result
    c.fourth-item.result
    n c.name-item-then-words-lt6.is c.first-item-then-words-lt6.is c.second-item-then-words-lt6.is c.third-item.is
    c.fourth-item.is in
    subst (λ ws. AreRead ws c.read_four.result) (let t = texts in cc) c.read_four.ensures

pub returns-in-len6 : goal.returns-in-len6
returns-in-len6 c =
    let n : length c.args.words.now ≡ 6 = omega (arith, c.in-len6.len_at_least, c.in-len6.len_below) in
    let texts = six_texts (string_bytes {Z = Global}) c.args.words.now c.name-item-then-words-lt7.result
    c.word-item.result c.left-item.result
    c.right-item.result c.steps-item.result c.output-item.result n c.name-item-then-words-lt7.is c.word-item.is
    c.left-item.is
    c.right-item.is c.steps-item.is c.output-item.is in
    subst (λ ws. AreRead ws c.read_window.result) (let t = texts in cc) c.read_window.ensures

pub returns-in-len7 : goal.returns-in-len7
returns-in-len7 c =
    let n : length c.args.words.now ≡ 7 = omega (arith, c.in-len7.len_at_least, c.in-len7.len_below) in
    let texts = seven_texts (string_bytes {Z = Global}) c.args.words.now c.name-item-then-words-lt8.result
    c.word-item-then-words-lt8.result
    c.left-item-then-words-lt8.result c.right-item-then-words-lt8.result c.steps-item-then-words-lt8.result
    c.output-item-then-words-lt8.result
    c.most_steps-item.result n c.name-item-then-words-lt8.is c.word-item-then-words-lt8.is c.left-item-then-words-lt8.is
    c.right-item-then-words-lt8.is c.steps-item-then-words-lt8.is c.output-item-then-words-lt8.is c.most_steps-item.is
    in
    subst (λ ws. AreRead ws c.read_window_and_steps.result) (let t = texts in cc) c.read_window_and_steps.ensures

pub returns-in-len8 : goal.returns-in-len8
returns-in-len8 c =
    let n : length c.args.words.now ≡ 8 = omega (arith, c.in-len8.len_at_least, c.in-len8.len_below) in
    let texts = eight_texts (string_bytes {Z = Global}) c.args.words.now c.name-item-then-words-lt9.result
    c.first-item-then-words-lt9.result c.second-item-then-words-lt9.result c.third-item-then-words-lt9.result
    c.left-item-then-words-lt9.result c.right-item-then-words-lt9.result c.steps-item-then-words-lt9.result
    c.output-item-then-words-lt9.result n c.name-item-then-words-lt9.is c.first-item-then-words-lt9.is
    c.second-item-then-words-lt9.is c.third-item-then-words-lt9.is c.left-item-then-words-lt9.is
    c.right-item-then-words-lt9.is c.steps-item-then-words-lt9.is c.output-item-then-words-lt9.is in
    subst (λ ws. AreRead ws c.read_three_and_window.result) (let t = texts in cc) c.read_three_and_window.ensures

pub returns-in-len9 : goal.returns-in-len9
returns-in-len9 c =
    let n : length c.args.words.now ≡ 9 = omega (arith, c.in-len9.len_at_least, c.in-len9.len_below) in
    let texts = nine_texts (string_bytes {Z = Global}) c.args.words.now c.name-item-then-words-lt10.result
    c.first-item-then-words-lt10.result c.second-item-then-words-lt10.result c.third-item-then-words-lt10.result
    c.left-item-then-words-lt10.result c.right-item-then-words-lt10.result c.steps-item-then-words-lt10.result
    c.output-item-then-words-lt10.result c.most_steps-item-then-words-lt10.result n c.name-item-then-words-lt10.is
    c.first-item-then-words-lt10.is c.second-item-then-words-lt10.is c.third-item-then-words-lt10.is
    c.left-item-then-words-lt10.is c.right-item-then-words-lt10.is c.steps-item-then-words-lt10.is
    c.output-item-then-words-lt10.is c.most_steps-item-then-words-lt10.is in
    subst (λ ws. AreRead ws c.read_three_window_and_steps.result) (let t = texts in cc)
    c.read_three_window_and_steps.ensures

pub returns-in_default : goal.returns-in_default
returns-in_default c = elim c.in_default.branch [
  | goal.in_default-via-then-words-lt6+then-words-lt1 w ↦
      let none : length c.args.words.now < 1 = grind (arith, nat_tests) in
      other_length (string_bytes {Z = Global}) c.args.words.now (omega arith) (omega arith) (omega arith) (omega arith)
      (omega arith) (omega arith) (omega arith) (omega arith)
  | goal.in_default-via-then-words-lt6+else-words-lt1+else-words-lt2+else-words-lt3+else-words-lt4+then-words-lt5 w ↦
      let some : 4 ≤ length c.args.words.now = grind (arith, nat_tests) in
      let few : length c.args.words.now < 5 = grind (arith, nat_tests) in
      other_length (string_bytes {Z = Global}) c.args.words.now (omega arith) (omega arith) (omega arith) (omega arith)
      (omega arith) (omega arith) (omega arith) (omega arith)
  | goal.in_default-via-else-words-lt6+else-words-lt7+else-words-lt8+else-words-lt9+else-words-lt10 w ↦
      let many : 10 ≤ length c.args.words.now = grind (arith, nat_tests) in
      other_length (string_bytes {Z = Global}) c.args.words.now (omega arith) (omega arith) (omega arith) (omega arith)
      (omega arith) (omega arith) (omega arith) (omega arith)
]
