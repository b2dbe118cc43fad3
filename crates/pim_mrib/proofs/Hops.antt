-- The set of next hops as it grows, route by route.
use Rattle.std.{proofs.{Common.{◌≡◌, ◌<◌, ◌+◌, ◌==◌, ◌||◌, ℕ, Bool, true, false, List, ap, cond, get_or, length, refl, sym, take, ◌∙◌, arith}, lemmas.{Bool.Decides.nat_tests, Grind.common_steps, List.Folds.list_any_more}}, specs.{List.list_any, Ordering.{is_eq, nat_cmp}}}
use Rattle.pim_ip.{specs.declared.addr.Addr.Addr}
use Rattle.pim_types.{specs.declared.config.Route.Route}
use Rattle.pim_mrib.{specs.Hops.AreNextHops}

equal_numbers : (m n : ℕ) → is_eq (nat_cmp m n) ≡ (m == n)
equal_numbers m n = grind (arith, nat_tests, common_steps)

or_last : (b c : Bool) → cond b true c ≡ (c || b)
or_last true true = refl
or_last true false = refl
or_last false true = refl
or_last false false = refl

pub next_hop : (routes : List Route) (hops more : List Addr) (n : ℕ) (d r : Route) → n < length routes
    → r ≡ get_or routes n d
    → ((q : Addr) → list_any (λ a. is_eq (nat_cmp q.bits a.bits)) more
    ≡ cond (is_eq (nat_cmp r.next_hop.bits q.bits)) true (list_any (λ a. is_eq (nat_cmp q.bits a.bits)) hops))
    → AreNextHops (take n routes) hops → AreNextHops (take (n + 1) routes) more
next_hop routes hops more n d r inside is has same q =
    let leads : Route → Bool = λ x. x.next_hop.bits == q.bits in
    has q
    ∙ ap (λ (b : Bool). cond (is_eq (nat_cmp r.next_hop.bits q.bits)) true b) (same q)
    ∙ or_last (is_eq (nat_cmp r.next_hop.bits q.bits)) (list_any leads (take n routes))
    ∙ ap (λ (b : Bool). list_any leads (take n routes) || b)
    (equal_numbers r.next_hop.bits q.bits ∙ ap (λ (x : Route). leads x) is)
    ∙ sym (list_any_more leads routes n d inside)

pub replaced_are_hops : (b : Bool) (routes old new : List Route) (hops : List Addr) → new ≡ cond b routes old
    → b ≡ true → AreNextHops routes hops → AreNextHops new hops
replaced_are_hops true routes old new hops is taken are = λ q.
    are q ∙ ap (λ (rs : List Route). list_any (λ (r : Route). r.next_hop.bits == q.bits) rs) (sym is)
replaced_are_hops false routes old new hops is taken are = cc
