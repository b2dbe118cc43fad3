-- What is written one after the other.
use Rattle.std.proofs.{Common.{◌≡◌, ℕ, ◌+◌, ◌<◌, ◌≤◌, List, ◌++◌, length, take, drop, get_or, map, All, Result, Ok, Err, OnOk, OnErr, sym, ◌∙◌, refl, arith}, lemmas.List.{Elements.All-push, append_assoc, length-append, take-take, take_at, drop_at, map_more}}
use Rattle.igmp_wire.{specs.Written.{BeginsWith, summed}}

-- what stood before still does
pub begins : (bytes old more : List ℕ) → bytes ≡ old ++ more → BeginsWith bytes old
begins bytes old more e = rw e (take_at old more (length old) refl)

-- also what stood before a part of it
pub begins_longer : (bytes old more middle : List ℕ) → middle ≡ old ++ more → BeginsWith bytes middle → BeginsWith bytes old
begins_longer bytes old more middle e h =
    let long = length-append old more in
    let within : length old ≤ length middle = rw e (omega arith) in
    sym (take-take (length old) (length middle) bytes within) ∙ rw (h, e) (take_at old more (length old) refl)

-- all so far and one more
pub All_more : {X : Type 0} (P : ℕ → Type 0) (f : X → ℕ) (xs : List X) (i : ℕ) (d : X) → i < length xs → All P (map f (take i xs)) → P (f (get_or xs i d))
    → All P (map f (take (i + 1) xs))
All_more P f xs i d h so_far here = rw (map_more f xs i d h) (All-push P (map f (take i xs)) (f (get_or xs i d)) so_far here)

-- a text behind another one
pub appended : (out middle old first last : List ℕ) → middle ≡ old ++ first → out ≡ middle ++ last → out ≡ old ++ (first ++ last)
appended out middle old first last e h = rw (h, e) (append_assoc old first last)

-- a message whose checksum was made
pub finished : {T E : Type 0} (r : Result T E) (old text middle out : List ℕ) (start : ℕ) → start ≡ length old → OnOk r (middle ≡ old ++ text)
    → OnOk r (out ≡ take start middle ++ summed (drop start middle)) → OnOk r (out ≡ old ++ summed text)
finished (Err x) old text middle out start e h k = tt
finished (Ok x) old text middle out start e h k =
    let front : take start middle ≡ old = rw h (take_at old text start (sym e)) in
    let back : drop start middle ≡ text = rw h (drop_at old text start (sym e)) in
    k ∙ rw (front, back) refl

-- a fact that holds whatever the result is
pub on_err_always : {T E Q : Type 0} (r : Result T E) → Q → OnErr r Q
on_err_always (Ok x) q = tt
on_err_always (Err e) q = q
