-- what each link may be, and that the links together are those of a participant
use Rattle.std.proofs.Common.{◌≡◌, ◌&&◌, ℕ, List, Bool, true, false, Option, Some, None, refl, is_none, is_some}
use Rattle.state_facts.specs.Links.{are_together, links_together}
use Rattle.wire_frames.specs.declared.version.Version.{Version}
use Rattle.wire_frames.specs.declared.version.Version.TheVariants.{One, Two}
use Rattle.wire_frames.specs.Rules.{may_be, may_be_after, needs_compensate}
use Rattle.wire_frames.specs.Versions.{knows}

abbrev pub all_may : Version → (complete compensate status forget after : Option (List ℕ)) → Bool
all_may v k c s f a = may_be false true k && (may_be (needs_compensate v k) true c && (may_be false (is_some c) s && (may_be false (is_some c) f && may_be_after v (is_none c) a)))

pub may_all : (v : Version) (k c s f a : Option (List ℕ)) → are_together k c s f a ≡ true → knows v a ≡ true → all_may v k c s f a ≡ true
may_all One k (Some c) s f None t w = rest k s f
  where
    rest : (k s f : Option (List ℕ)) → all_may One k (Some c) s f None ≡ true
    rest None None None = refl
    rest None None (Some y) = refl
    rest None (Some x) None = refl
    rest None (Some x) (Some y) = refl
    rest (Some z) None None = refl
    rest (Some z) None (Some y) = refl
    rest (Some z) (Some x) None = refl
    rest (Some z) (Some x) (Some y) = refl
may_all One k c s f (Some a) t w = absurd cc
may_all One k None s f None t w = absurd cc
may_all Two k (Some c) s f a t w = rest k s f a
  where
    rest : (k s f a : Option (List ℕ)) → all_may Two k (Some c) s f a ≡ true
    rest None None None None = refl
    rest None None None (Some x) = refl
    rest None None (Some y) None = refl
    rest None None (Some y) (Some x) = refl
    rest None (Some z) None None = refl
    rest None (Some z) None (Some x) = refl
    rest None (Some z) (Some y) None = refl
    rest None (Some z) (Some y) (Some x) = refl
    rest (Some u) None None None = refl
    rest (Some u) None None (Some x) = refl
    rest (Some u) None (Some y) None = refl
    rest (Some u) None (Some y) (Some x) = refl
    rest (Some u) (Some z) None None = refl
    rest (Some u) (Some z) None (Some x) = refl
    rest (Some u) (Some z) (Some y) None = refl
    rest (Some u) (Some z) (Some y) (Some x) = refl
may_all Two None None None None (Some a) t w = refl
may_all Two (Some k) None s f (Some a) t w = absurd cc
may_all Two None None (Some s) f (Some a) t w = absurd cc
may_all Two None None None (Some f) (Some a) t w = absurd cc
may_all Two k None s f None t w = absurd cc

pub all_together : (v : Version) (k c s f a : Option (List ℕ)) → all_may v k c s f a ≡ true → (are_together k c s f a ≡ true) × (knows v a ≡ true)
all_together One k (Some c) s f None e = (refl, refl)
all_together One k (Some c) s f (Some a) e = absurd (last k s f e)
  where
    last : (k s f : Option (List ℕ)) → all_may One k (Some c) s f (Some a) ≡ true → ⊥
    last None None None e = cc
    last None None (Some y) e = cc
    last None (Some x) None e = cc
    last None (Some x) (Some y) e = cc
    last (Some z) None None e = cc
    last (Some z) None (Some y) e = cc
    last (Some z) (Some x) None e = cc
    last (Some z) (Some x) (Some y) e = cc
all_together One None None s f a e = absurd cc
all_together One (Some k) None s f a e = absurd cc
all_together Two k (Some c) s f a e = (refl, refl)
all_together Two None None None None (Some a) e = (refl, refl)
all_together Two None None None None None e = absurd cc
all_together Two (Some k) None s f a e = absurd cc
all_together Two None None (Some s) f a e = absurd cc
all_together Two None None None (Some f) a e = absurd cc

pub both : (a b : Bool) → (a && b) ≡ true → (a ≡ true) × (b ≡ true)
both true b e = (refl, e)
both false b e = absurd cc

pub with_both : (a b : Bool) → a ≡ true → b ≡ true → (a && b) ≡ true
with_both true b e f = f
with_both false b e f = absurd cc

-- so such links exist
pub links_are : (v : Version) (k c s f a : Option (List ℕ)) → may_be (needs_compensate v k) true c ≡ true → may_be false (is_some c) s ≡ true → may_be false (is_some c) f ≡ true → may_be_after v (is_none c) a ≡ true → links_together k c s f a ≡ None → ⊥
links_are v k c s f a one two three four none =
    let all = all_together v k c s f a (with_both _ _ (given k) (with_both _ _ one (with_both _ _ two (with_both _ _ three four)))) in
    let some : links_together k c s f a ≡ Some (record { complete = k; compensate = c; status = s; forget = f; after = a }) = rw all.0 refl in
    cc
  where
    given : (o : Option (List ℕ)) → may_be false true o ≡ true
    given None = refl
    given (Some x) = refl
