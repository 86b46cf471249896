-- What a declaration keeps. Assumes nothing.
use Rattle.std.proofs.Common.{◌≡◌, ℕ, zero, suc, ◌+◌, ◌<◌, ◌≢◌, List, [], ◌∷◌, length, get_or, take, set, sym, refl, subst, arith, get_or-set_other, get_or-set_same, below_more}
use Rattle.page.specs.declared.descriptor.Descriptor.{Descriptor}
use Rattle.page.specs.Descriptors.{no_type, Good, AllGood, declare_types, declare_all}

pub all_more : (n : ℕ) (ds : List Descriptor) (d : Descriptor) → n < length ds → AllGood n ds → Good d → AllGood (n + 1) (set ds n d)
all_more n ds d lt below here =
    below_more (λ k. Good (get_or (set ds n d) k no_type)) n
    (λ k h. let ne : k ≢ n = omega arith in subst Good (sym (get_or-set_other ds n k d no_type ne)) (below k h))
    (subst Good (sym (get_or-set_same ds n d no_type lt)) here)

pub declare_more : (ts ds : List Descriptor) (i : ℕ) → i < length ds → declare_all ts (take (i + 1) ds) ≡ declare_types (declare_all ts (take i ds)) (get_or ds i no_type).size (get_or ds i no_type).mask
declare_more ts [] i h = absurd (omega arith)
declare_more ts (d ∷ ds) zero h = refl
declare_more ts (d ∷ ds) (suc i) h =
    let e : suc i + 1 ≡ suc (i + 1) = omega arith in
    rw e (declare_more (declare_types ts d.size d.mask) ds i (omega arith))
