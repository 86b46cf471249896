-- The words of a line that have been read as numbers. Assumes nothing.
use Rattle.std.proofs.Common.{◌≡◌, ℕ, ◌+◌, ◌<◌, ◌≤◌, List, [], ◌∷◌, ◌++◌, length, get_or, set, replicate, sym, refl, ap, ◌∙◌, subst, inl, inr, append_assoc, append-nil, arith, length-set}
use lib.ListN.{length-replicate}
use Rattle.std.proofs.lemmas.List.{length_push, get_or_push, get_or_append_left, get_or-set_same, get_or-set_other}
use Rattle.std.proofs.lemmas.Bool.{cases_eq}
use Rattle.std.specs.Char.{is_whitespace, is_not_whitespace}
use Rattle.std.specs.Str.{NoCharPasses, EmptyOrStartsWithPassing}
use Rattle.console.specs.Words.{First, Words, Writes, Write}

-- what `split_whitespace` says of an item
pub first_of : (bs w rest : List ℕ) → (gap : List ℕ) × (bs ≡ gap ++ (w ++ rest)) × (0 < length w) × NoCharPasses is_not_whitespace gap × NoCharPasses is_whitespace w × ((more : List ℕ) × EmptyOrStartsWithPassing is_whitespace rest more) → First bs w rest
first_of bs w rest cut = record { gap = cut.0; cut = cut.1; some = cut.2; blank = cut.3; solid = cut.4; ends = cut.5 }

-- the loop's invariant: the words of text before rest write the first numbers of ns
pub record Sofar (text rest ns : List ℕ) (found n : ℕ) : Type 0 where
  pub seen : List (List ℕ)
  pub long : length seen ≡ found
  pub before : (ws : List (List ℕ)) → Words rest ws → Words text (seen ++ ws)
  pub each : (k : ℕ) → k < found → Writes (get_or seen k []) (get_or ns k 0)
  pub sized : length ns ≡ n
  pub few : found ≤ n

pub none_yet : (text : List ℕ) (n : ℕ) → Sofar text text (replicate n 0) 0 n
none_yet text n = record {
  seen = [];
  long = refl;
  before = λ ws h. h;
  each = λ k l. omega (arith, l);
  sized = length-replicate n 0;
  few = omega arith;
}

module _ {text rest ns : List ℕ} {found n : ℕ} (old : Sofar text rest ns found n) where
  pub one_more : {w next : List ℕ} {x : ℕ} → found < n → First rest w next → Writes w x → Sofar text next (set ns found x) (found + 1) n
  one_more {w} {next} {x} room first writes = record {
    seen = old.seen ++ (w ∷ []);
    long = length_push old.seen w ∙ ap (λ k. k + 1) old.long;
    before = λ ws h. subst (Words text) (sym (append_assoc old.seen (w ∷ []) ws)) (old.before (w ∷ ws) (next, first, h));
    each = λ k l. elim (cases_eq k found) [
      | inl e ↦ rw (e, get_or_push old.seen w [] found old.long, get_or-set_same ns found x 0 (omega (arith, room, old.sized))) writes
      | inr e ↦ rw (get_or_append_left old.seen (w ∷ []) [] k (omega (arith, l, old.long, e)), get_or-set_other ns found k x 0 e) (old.each k (omega (arith, l, e)))
    ];
    sized = length-set ns found x ∙ old.sized;
    few = omega (arith, room);
  }

  pub no_more : n ≤ found → Words rest [] → (ws : List (List ℕ)) × Words text ws × Write ws ns
  no_more full none = (
    old.seen,
    subst (Words text) (append-nil old.seen) (old.before [] none),
    record {
      many = omega (arith, old.long, old.sized, old.few, full);
      each = λ k l. old.each k (omega (arith, l, old.sized, full));
    },
  )
