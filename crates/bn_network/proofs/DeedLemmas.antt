-- Deeds that read and write the same tapes.
use Rattle.std.proofs.Common.{◌≡◌, ℕ, suc, List, [], ◌∷◌, map, reverse, refl, sym, ap, ◌∙◌}
use Rattle.std.proofs.lemmas.List.{reverse-reverse}
use mathlib.Core.List.{reverse_aux}
use Rattle.bn_quad.specs.Quadruples.{Deed, Rewrite, Move, Rule, deeds_of}
use Rattle.bn_quad.specs.Overlap.{IsAlike, MeetsInDomain, MeetsInRange, OnEachTape, HaveSameTapes}
use Rattle.bn_network.specs.Controls.{reads, rising, writes_of, symbols_read}
use Rattle.bn_network.proofs.ListLemmas.{tapes}

-- alike deeds read the same tapes
pub same_reads : (xs ys : List Deed) (t : ℕ) → OnEachTape IsAlike xs ys → tapes (reads t xs) ≡ tapes (reads t ys)
same_reads [] [] t s = refl
same_reads [] (y ∷ ys) t s = absurd s
same_reads (x ∷ xs) [] t s = absurd s
same_reads (Rewrite r w ∷ xs) (Rewrite u v ∷ ys) t s = ap (λ (l : List ℕ). t ∷ l) (same_reads xs ys (suc t) s.1)
same_reads (Rewrite r w ∷ xs) (Move d ∷ ys) t s = absurd s.0
same_reads (Move d ∷ xs) (Rewrite u v ∷ ys) t s = absurd s.0
same_reads (Move d ∷ xs) (Move b ∷ ys) t s = same_reads xs ys (suc t) s.1

-- alike deeds write the same tapes
same_rising : (xs ys : List Deed) (t : ℕ) → OnEachTape IsAlike xs ys → tapes (rising t xs) ≡ tapes (rising t ys)
same_rising [] [] t s = refl
same_rising [] (y ∷ ys) t s = absurd s
same_rising (x ∷ xs) [] t s = absurd s
same_rising (Rewrite r w ∷ xs) (Rewrite u v ∷ ys) t s = ap (λ (l : List ℕ). t ∷ l) (same_rising xs ys (suc t) s.1)
same_rising (Rewrite r w ∷ xs) (Move d ∷ ys) t s = absurd s.0
same_rising (Move d ∷ xs) (Rewrite u v ∷ ys) t s = absurd s.0
same_rising (Move d ∷ xs) (Move b ∷ ys) t s = same_rising xs ys (suc t) s.1

-- alike deeds with the same symbols read meet in domain
pub meet_reads : (xs ys : List Deed) (t : ℕ) → OnEachTape IsAlike xs ys
    → symbols_read (reads t xs) ≡ symbols_read (reads t ys) → OnEachTape MeetsInDomain xs ys
meet_reads [] [] t s e = tt
meet_reads [] (y ∷ ys) t s e = absurd s
meet_reads (x ∷ xs) [] t s e = absurd s
meet_reads (Rewrite r w ∷ xs) (Rewrite u v ∷ ys) t s e = (cc, meet_reads xs ys (suc t) s.1 cc)
meet_reads (Rewrite r w ∷ xs) (Move d ∷ ys) t s e = absurd s.0
meet_reads (Move d ∷ xs) (Rewrite u v ∷ ys) t s e = absurd s.0
meet_reads (Move d ∷ xs) (Move b ∷ ys) t s e = (tt, meet_reads xs ys (suc t) s.1 e)

-- alike deeds with the same symbols written meet in range
meet_rising : (xs ys : List Deed) (t : ℕ) → OnEachTape IsAlike xs ys
    → symbols_read (rising t xs) ≡ symbols_read (rising t ys) → OnEachTape MeetsInRange xs ys
meet_rising [] [] t s e = tt
meet_rising [] (y ∷ ys) t s e = absurd s
meet_rising (x ∷ xs) [] t s e = absurd s
meet_rising (Rewrite r w ∷ xs) (Rewrite u v ∷ ys) t s e = (cc, meet_rising xs ys (suc t) s.1 cc)
meet_rising (Rewrite r w ∷ xs) (Move d ∷ ys) t s e = absurd s.0
meet_rising (Move d ∷ xs) (Rewrite u v ∷ ys) t s e = absurd s.0
meet_rising (Move d ∷ xs) (Move b ∷ ys) t s e = (tt, meet_rising xs ys (suc t) s.1 e)

-- the same with what was turned round before
map_onto : (f : ℕ × ℕ → ℕ) (l acc : List (ℕ × ℕ)) → map f (reverse_aux l acc) ≡ reverse_aux (map f l) (map f acc)
map_onto f [] acc = refl
map_onto f (x ∷ l) acc = map_onto f l (x ∷ acc)

-- a list turned round and then mapped
map_reverse : (f : ℕ × ℕ → ℕ) (l : List (ℕ × ℕ)) → map f (reverse l) ≡ reverse (map f l)
map_reverse f l = map_onto f l []

-- quadruples with the same tapes write the same tapes
pub same_writes : (r s : Rule ℕ) → HaveSameTapes r s → tapes (writes_of r) ≡ tapes (writes_of s)
same_writes r s h = map_reverse (λ p. p.0) (rising 1 (deeds_of r))
    ∙ ap reverse (same_rising (deeds_of r) (deeds_of s) 1 h) ∙ sym (map_reverse (λ p. p.0) (rising 1 (deeds_of s)))

-- with the same symbols written they meet in range
pub meet_writes : (r s : Rule ℕ) → HaveSameTapes r s → symbols_read (writes_of r) ≡ symbols_read (writes_of s)
    → OnEachTape MeetsInRange (deeds_of r) (deeds_of s)
meet_writes r s h e =
    let turned : reverse (symbols_read (rising 1 (deeds_of r))) ≡ reverse (symbols_read (rising 1 (deeds_of s))) =
    sym (map_reverse (λ p. p.1) (rising 1 (deeds_of r))) ∙ e ∙ map_reverse (λ p. p.1) (rising 1 (deeds_of s)) in
    meet_rising (deeds_of r) (deeds_of s) 1 h (sym (reverse-reverse (symbols_read (rising 1 (deeds_of r))))
    ∙ ap reverse turned ∙ reverse-reverse (symbols_read (rising 1 (deeds_of s))))
