-- How a call ends, where there is a reply and as much of its text as there is room for was copied to the front.
use Rattle.std.specs.Prelude.{◌≡◌, ◌↔◌, ℕ, ◌≤◌, ◌<◌, Bool, true, false, nat_le, List, [], ◌++◌, length, take, drop}
use Rattle.std.specs.Prelude.{None, refl}
use Rattle.std.proofs.Common.{arith, ap, ◌∙◌}
use Rattle.std.proofs.lemmas.Bool.Decides.{nat_tests}
use Rattle.std.proofs.lemmas.List.{append-nil, drop_all, take_all}
use Rattle.bn_reply.specs.Codes.{code_of}
use Rattle.bn_reply.specs.declared.reply.Reply.{Reply}
use Rattle.bn_reply.specs.declared.status.Status.TheVariants.{WriteFault}
use Rattle.bn_top.specs.Headlines.{IsReplyTo}
use Rattle.bn_embed.specs.Call as call
use Rattle.bn_embed.specs.Call.{Ends}

-- what a test that fails says
pub longer_where : (fits : Bool) (m n : ℕ) → (fits ≡ true ↔ m ≤ n) → fits ≡ false → n < m
longer_where fits m n says fails = by_test (nat_le m n) refl
  where
    by_test : (b : Bool) → nat_le m n ≡ b → n < m
    by_test true is =
        let low : m ≤ n = grind (arith, nat_tests) in
        absurd (cc (says.1 low))
    by_test false is = grind (arith, nat_tests)

module _ (words : List (List ℕ)) (input before after text : List ℕ) (code : ℕ) (reply : Reply)
    (told : IsReplyTo words input reply None None) (is : text ≡ reply.text.items)
    (laid : after ≡ take (length before) text ++ drop (length text) before) where
  pub ends_whole : length text ≤ length before → code ≡ code_of reply.status
      → Ends words input before after code (length text)
  ends_whole fits of_reply =
      let same : length text ≡ length reply.text.items = ap length is in
      let all : take (length before) text ≡ text = take_all (length before) text fits in
      call.whole reply told (omega arith) of_reply same
      (laid ∙ ap (λ front. front ++ drop (length text) before) all ∙ ap (λ t. t ++ drop (length t) before) is)

  pub ends_full : length before < length text → code ≡ code_of WriteFault
      → Ends words input before after code (length text)
  ends_full longer of_fault =
      let same : length text ≡ length reply.text.items = ap length is in
      let none : drop (length text) before ≡ [] = drop_all (length text) before (omega arith) in
      call.full reply told (omega arith) of_fault same
      (laid ∙ ap (λ rest. take (length before) text ++ rest) none ∙ append-nil (take (length before) text)
      ∙ ap (take (length before)) is)
