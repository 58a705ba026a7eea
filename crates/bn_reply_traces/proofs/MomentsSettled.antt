-- `moments` has one answer to all words, numbers of steps and bytes.
use Rattle.std.specs.Prelude.{◌≢◌, ℕ, List, [], All}
use Rattle.std.proofs.Common.{arith}
use Rattle.bn_reply.specs.Lines.{foreign_line}
use Rattle.bn_reply.specs.Words.{IsSpelledBy}
use Rattle.bn_reply_traces.specs.MomentsReply.{MomentsAreSettled, TellsMoments}
use Rattle.bn_reply_machines.specs.QuadReply.{TapeWordReplies, lettered, tape_foreign_line}
use Rattle.bn_reply_machines.proofs.AlphabetLemmas.{read_alphabet}
use Rattle.bn_reply_traces.proofs.MomentsLemmas.{moments_settled}
use Rattle.bn_reply_machines.proofs.QuadReplyLemmas.{quad_settled, tape_word_settled}

letters_of_word : (names : List (List ℕ)) (word symbols : List ℕ) → IsSpelledBy (lettered names) word symbols →
    All (λ s. s ≢ 0) symbols
letters_of_word names word symbols h = λ k d inside. (h.symbols_known k d inside).letter

no_letters : All {X = ℕ} (λ s. s ≢ 0) []
no_letters = λ k d inside. absurd (omega (arith, inside))

pub moments_are_settled : MomentsAreSettled
moments_are_settled = record {
  one_word = λ word n bytes.
      quad_settled (λ t. TapeWordReplies foreign_line (λ one. TellsMoments t n one [] []) t.names.one word) bytes
      (λ t reads apart back. tape_word_settled foreign_line (λ one. TellsMoments t n one [] []) t.names.one
      (read_alphabet bytes t 1 reads (omega arith)) word
      (λ one h. moments_settled t n one [] [] apart (letters_of_word t.names.one word one h) no_letters no_letters));
  three_words = λ first second third n bytes.
      quad_settled (λ t. TapeWordReplies (tape_foreign_line 1)
      (λ one. TapeWordReplies (tape_foreign_line 2)
      (λ two. TapeWordReplies (tape_foreign_line 3)
      (λ three. TellsMoments t n one two three) t.names.three third) t.names.two second) t.names.one first) bytes
      (λ t reads apart back. tape_word_settled (tape_foreign_line 1) (λ one. TapeWordReplies (tape_foreign_line 2)
      (λ two. TapeWordReplies (tape_foreign_line 3)
      (λ three. TellsMoments t n one two three) t.names.three third) t.names.two second) t.names.one
      (read_alphabet bytes t 1 reads (omega arith)) first
      (λ one h1. tape_word_settled (tape_foreign_line 2) (λ two. TapeWordReplies (tape_foreign_line 3)
      (λ three. TellsMoments t n one two three) t.names.three third) t.names.two
      (read_alphabet bytes t 2 reads (omega arith)) second
      (λ two h2. tape_word_settled (tape_foreign_line 3) (λ three. TellsMoments t n one two three) t.names.three
      (read_alphabet bytes t 3 reads (omega arith)) third
      (λ three h3. moments_settled t n one two three apart (letters_of_word t.names.one first one h1)
      (letters_of_word t.names.two second two h2) (letters_of_word t.names.three third three h3)))));
}
