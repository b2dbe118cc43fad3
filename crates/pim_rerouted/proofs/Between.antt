-- What two lists of routes have in common at their beginning and at their end changes no longest match.
use Rattle.std.{proofs.{Common.{◌≡◌, ◌-◌, ◌++◌, ℕ, zero, suc, Bool, false, not, cond, List, [], ◌∷◌, Option, Some, None, drop, length, nat_lt, take, refl, sym, ap, ◌∙◌, arith}, lemmas.{Bool.Decides.nat_tests, List.{length-drop, take_all, take-append-drop}}}, specs.{List.list_any, Prelude.if◌then◌else◌}}
use Rattle.pim_ip.{specs.Prefixes.{contains, longer, longest_match}}
use Rattle.pim_types.{specs.declared.config.Route.Route}
use Rattle.pim_model.{specs.{State.State, Unicast.{route, route_among, routed_among}}}
use Rattle.law_events.{proofs.Sights.paths_same}
use Rattle.pim_rerouted.{specs.{Between.{Carries, LeavesBoth, longest}, OtherRoutes.{has_other_route, with_routes}}}

-- ---- heads

pub heads_carry : (n : ℕ) (first second : List Route) → take n first ≡ take n second
    → Carries (drop n first) (drop n second) first second
unfolding longest_match
heads_carry zero first second same address e = e
heads_carry (suc n) [] [] same address e = e
heads_carry (suc n) [] (y ∷ ys) same address e = cc
heads_carry (suc n) (x ∷ xs) [] same address e = cc
heads_carry (suc n) (x ∷ xs) (y ∷ ys) same address e = grind (arith, heads_carry n xs ys)

-- ---- tails

-- of two lists the later one comes first where its prefix is as long
abbrev merged : Option Route → Option Route → Option Route
merged None y = y
merged (Some r) None = Some r
merged (Some r) (Some q) = if nat_lt q.prefix.length r.prefix.length then Some r else Some q

merged_step : (r : Route) (b : Bool) (x y : Option Route)
    → cond b (Some (longer (λ (r : Route). r.prefix) r (merged x y))) (merged x y)
    ≡ merged (cond b (Some (longer (λ (r : Route). r.prefix) r x)) x) y
unfolding longer
merged_step r b x y = grind (arith, nat_tests)

longest_append : (xs ts : List Route) (address : ℕ) → longest (xs ++ ts) address ≡ merged (longest xs address) (longest ts address)
unfolding longest_match
longest_append [] ts address = refl
longest_append (x ∷ xs) ts address =
    ap (λ (o : Option Route). cond (contains x.prefix address) (Some (longer (λ (r : Route). r.prefix) x o)) o)
    (longest_append xs ts address)
    ∙ merged_step x (contains x.prefix address) (longest xs address) (longest ts address)

pub tails_carry : (n m : ℕ) (first second : List Route) → drop n first ≡ drop m second
    → Carries (take n first) (take m second) first second
tails_carry n m first second same address e =
    ap (λ (l : List Route). longest l address) (sym (take-append-drop n first))
    ∙ longest_append (take n first) (drop n first) address
    ∙ (λ j. merged (e j) (longest (same j) address))
    ∙ sym (longest_append (take m second) (drop m second) address)
    ∙ ap (λ (l : List Route). longest l address) (take-append-drop m second)

-- ---- both

-- what is left of a list behind its beginning
rest_is : (n : ℕ) (routes : List Route) → take (length routes - n) (drop n routes) ≡ drop n routes
rest_is n routes = take_all (length routes - n) (drop n routes) (omega (arith, length-drop n routes))

pub between_carries : (h t : ℕ) (first second : List Route) → take h first ≡ take h second
    → (let a : List Route = take (length first - h) (drop h first) in
    let b : List Route = take (length second - h) (drop h second) in
    drop (length a - t) a ≡ drop (length b - t) b → Carries (take (length a - t) a) (take (length b - t) b) first second)
between_carries h t first second heads tails address e =
    let a : List Route = take (length first - h) (drop h first) in
    let b : List Route = take (length second - h) (drop h second) in
    heads_carry h first second heads address
    (ap (λ (l : List Route). longest l address) (sym (rest_is h first))
    ∙ tails_carry (length a - t) (length b - t) a b tails address e
    ∙ ap (λ (l : List Route). longest l address) (rest_is h second))

-- ---- an address outside

none_longest : (routes : List Route) (address : ℕ) → list_any (λ (r : Route). contains r.prefix address) routes ≡ false
    → longest routes address ≡ None
unfolding longest_match
none_longest [] address e = refl
none_longest (r ∷ rs) address e = grind (arith, none_longest rs address)

pub left_by_both : (before after : List Route) (address : ℕ)
    → list_any (λ (r : Route). contains r.prefix address) before ≡ false
    → list_any (λ (r : Route). contains r.prefix address) after ≡ false → LeavesBoth before after address
left_by_both before after address e f = (none_longest before address e, none_longest after address f)

routed_alike : (s : State) (routes : List Route) (address : ℕ) → longest s.routes address ≡ longest routes address
    → route s address ≡ route (with_routes s routes) address
unfolding route route_among routed_among
routed_alike s routes address e = grind arith

pub not_moved : (s : State) (routes before after : List Route) (address : ℕ) → Carries before after s.routes routes
    → LeavesBoth before after address → false ≡ has_other_route s (with_routes s routes) address
not_moved s routes before after address carries leaves =
    sym (ap not (paths_same (route s address) (route (with_routes s routes) address)
    (routed_alike s routes address (carries address (leaves.0 ∙ sym leaves.1)))))
