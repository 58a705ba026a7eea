-- The replies of `equal`, put together.
use Rattle.std.specs.Prelude.{◌≡◌, ℕ, List, [], Result, Ok, Err, IfOk}
use Rattle.std.proofs.Common.{ap, ◌∙◌}
use Rattle.bn_equal.specs.Comparisons.{IsDifference}
use Rattle.bn_equal.specs.Differences.{last_output}
use Rattle.bn_equal.specs.declared.comparison.Difference.{Difference}
use Rattle.bn_rsm.specs.Machines.{Machine, machine_table}
use Rattle.bn_rsm.specs.Reading.{ReadsMoves}
use Rattle.bn_base.specs.Cuts.{IsCut}
use Rattle.bn_lists.specs.declared.memory.NoMemory.{NoMemory as WantOfMemory}
use Rattle.bn_reply.specs.declared.reply.Reply.{Reply}
use Rattle.bn_reply_equal.specs.EqualReply.{ComparisonReplies, EqualReplies, StatesReplies, TablesReplies, cut, differ}
use Rattle.bn_reply_equal.specs.EqualReply.{difference_text, reading}
use Rattle.bn_reply_equal.specs.Replied.{IsReadTable}
use Rattle.bn_reply_equal.specs.declared.read.ReadTable.{ReadTable}

-- what follows from a claim of a result
pub if_ok : {A E : Type 0} (P Q : A → Type 0) (result : Result A E) → ((a : A) → P a → Q a) → IfOk result P
    → IfOk result Q
if_ok P Q (Ok a) f h = f a h
if_ok P Q (Err e) f h = tt

pub differ_replies : (m n : Machine) (q r : ℕ) (d : Difference) (text : List ℕ)
    → IsDifference (machine_table m) q (machine_table n) r d
    → text ≡ difference_text d.word.items d.first d.second → ComparisonReplies m q n r text
differ_replies m n q r d text h is =
    differ d.word.items h.least
    (is ∙ ap (λ x. difference_text d.word.items x d.second) h.first
    ∙ ap (λ x. difference_text d.word.items (last_output (machine_table m) q d.word.items) x) h.second)

-- the answer to two machines is that to their texts
pub machine_replies : (m : Machine) (q r : ℕ) (n : Machine) (second : List ℕ) (result : Result Reply WantOfMemory)
    → ReadsMoves second n → IfOk result (λ a. StatesReplies m q n r a.status a.text.items [])
    → IfOk result (λ a. (first : List ℕ) → ReadsMoves first m → TablesReplies q r first second a.status a.text.items [])
machine_replies m q r n second result reads h =
    if_ok (λ a. StatesReplies m q n r a.status a.text.items [])
    (λ a. (first : List ℕ) → ReadsMoves first m → TablesReplies q r first second a.status a.text.items []) result
    (λ a told first h. reading m n h reads told) h

-- the answer to the first table that is read is that to the texts
pub clash_replies : (q r : ℕ) (first second : List ℕ) (table : ReadTable) (result : Result Reply WantOfMemory)
    → IsReadTable first table
    → IfOk result (λ a. (q r : ℕ) (first : List ℕ) → IsReadTable first table
    → TablesReplies q r first second a.status a.text.items [])
    → IfOk result (λ a. TablesReplies q r first second a.status a.text.items [])
clash_replies q r first second table result reads h =
    if_ok (λ a. (q r : ℕ) (first : List ℕ) → IsReadTable first table
    → TablesReplies q r first second a.status a.text.items [])
    (λ a. TablesReplies q r first second a.status a.text.items []) result (λ a told. told q r first reads) h

pub first_replies : (q r : ℕ) (first second : List ℕ) (m : Machine) (result : Result Reply WantOfMemory)
    → ReadsMoves first m
    → IfOk result (λ a. (first : List ℕ) → ReadsMoves first m → TablesReplies q r first second a.status a.text.items [])
    → IfOk result (λ a. TablesReplies q r first second a.status a.text.items [])
first_replies q r first second m result reads h =
    if_ok (λ a. (first : List ℕ) → ReadsMoves first m → TablesReplies q r first second a.status a.text.items [])
    (λ a. TablesReplies q r first second a.status a.text.items []) result (λ a told. told first reads) h

-- the answer to two texts is that to the input
pub cut_replies : (q r : ℕ) (bytes first second : List ℕ) (result : Result Reply WantOfMemory)
    → IsCut bytes first second → IfOk result (λ a. TablesReplies q r first second a.status a.text.items [])
    → IfOk result (λ a. EqualReplies q r bytes a.status a.text.items [])
cut_replies q r bytes first second result is h =
    if_ok (λ a. TablesReplies q r first second a.status a.text.items [])
    (λ a. EqualReplies q r bytes a.status a.text.items []) result (λ a told. cut first second is told) h
