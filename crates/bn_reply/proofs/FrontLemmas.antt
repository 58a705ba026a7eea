-- What is left of a text where what was to be appended came in part.
use Rattle.std.proofs.Common.{◌≡◌, ◌++◌, ◌∙◌, [], ℕ, List, refl, sym, ap, append_assoc, subst}
use Rattle.std.proofs.lemmas.List.{append-nil}
use Rattle.std.specs.Prelude.{Result, Ok, Err, OnErr}
use Rattle.bn_reply.specs.Fronts.{GrewInPart}

-- nothing came
pub as_it_was : (old new whole : List ℕ) → new ≡ old → GrewInPart old new whole
as_it_was old new whole e = record { front = []; prefix = (whole, refl); grown = e ∙ sym (append-nil old) }

-- all of it came, and something more was wanted
pub with_first : (old new first rest : List ℕ) → new ≡ old ++ first → GrewInPart old new (first ++ rest)
with_first old new first rest e = record { front = first; prefix = (rest, refl); grown = e }

-- a front of the first piece came
pub in_first : (old new first rest : List ℕ) → GrewInPart old new first → GrewInPart old new (first ++ rest)
in_first old new first rest g = record {
  front = g.front;
  prefix = (g.prefix.0 ++ rest, ap (λ text. text ++ rest) g.prefix.1 ∙ append_assoc g.front g.prefix.0 rest);
  grown = g.grown;
}

-- the first piece came, and a front of what was to stand behind it
pub behind_first : (old between new first rest : List ℕ) → between ≡ old ++ first → GrewInPart between new rest
    → GrewInPart old new (first ++ rest)
behind_first old between new first rest e g = record {
  front = first ++ g.front;
  prefix = (g.prefix.0, ap (λ text. first ++ text) g.prefix.1 ∙ sym (append_assoc first g.front g.prefix.0));
  grown = g.grown ∙ ap (λ text. text ++ g.front) e ∙ append_assoc old first g.front;
}

-- the same of what equals it
pub of_equal : (old new one two : List ℕ) → one ≡ two → GrewInPart old new one → GrewInPart old new two
of_equal old new one two e g = let P : List ℕ → Type 0 = λ whole. GrewInPart old new whole in subst P e g

-- what is left of a text is so after a call that gave up, since it is so anyhow
pub if_refused : {T E P : Type 0} (r : Result T E) → P → OnErr r P
if_refused (Ok x) p = tt
if_refused (Err y) p = p

-- ---- piece by piece

-- of the whole a front has come, and the rest is to come
pub record CameSoFar (old now whole rest : List ℕ) : Type 0 where
  pub front : List ℕ
  pub split : whole ≡ front ++ rest
  pub grown : now ≡ old ++ front

pub more_came : (old now later whole piece left rest : List ℕ) → CameSoFar old now whole rest → rest ≡ piece ++ left
    → later ≡ now ++ piece → CameSoFar old later whole left
more_came old now later whole piece left rest h e more = record {
  front = h.front ++ piece;
  split = h.split ∙ ap (λ text. h.front ++ text) e ∙ sym (append_assoc h.front piece left);
  grown = more ∙ ap (λ text. text ++ piece) h.grown ∙ append_assoc old h.front piece;
}

pub all_came : (old now whole rest : List ℕ) → CameSoFar old now whole rest → rest ≡ [] → now ≡ old ++ whole
all_came old now whole rest h e =
    h.grown ∙ ap (λ text. old ++ text) (sym (h.split ∙ ap (λ text. h.front ++ text) e ∙ append-nil h.front))

pub part_came : (old now later whole piece left rest : List ℕ) → CameSoFar old now whole rest → rest ≡ piece ++ left
    → GrewInPart now later piece → GrewInPart old later whole
part_came old now later whole piece left rest h e g =
    of_equal old later (h.front ++ (piece ++ left)) whole (sym (h.split ∙ ap (λ text. h.front ++ text) e))
    (behind_first old now later h.front (piece ++ left) h.grown (in_first now later piece left g))
