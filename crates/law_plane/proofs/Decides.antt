-- What a row decides of a packet is what the answers decide of it.
use Rattle.std.{proofs.{Common.{◌≡◌, ◌==◌, ℕ, Bool, true, false, not, ◌&&◌, ◌||◌, cond, Option, Some, None, nat_lt, refl, arith}, lemmas.Grind.common_steps}}
use Rattle.pim_model.{specs.{Cache.{Answers, Plain, answers, away_from, is_contested, is_on_shared_tree, is_on_tree, keeps_alive, opens_tunnel, plain, sets_spt}, Forwarding.no_interface, Sets.{Set, inherited_olist, inherited_olist_rpt, spt_bit}, State.State, Tables.same_option}}
use Rattle.law_plane.{specs.{Offload.{Handling, Row, cache_entry, decision, handling, is_incoming, is_to_core, offload}, OffloadLaws.{EntryDecides, StrayIsOutgoing}}}

module _ (r : Answers) (i ttl : ℕ) where
  abbrev plainly : Bool → Set → Option Plain
  plainly k list = Some (record { keeps = k; list = list })

  -- by what is asked: whether it opens the tunnel or sets SPTbit, whether it is on each tree, SPTbit, the tunnel, the
  -- TTL, whether it is contested, is kept alive, is watched
  abbrev by_row : (o b t h p n c k w : Bool) → Option Plain
  by_row o b t h p n c k w =
      let incoming : Bool = cond p t h in
      decision (cond (o || b || cond incoming (p && n) c) Handling.ToCore
      (cond incoming (Handling.Forward (k || (h && not p && w)) (away_from i (cond p r.inherited r.inherited_rpt)))
      (cond (k || (h && not p && w)) (Handling.Forward true no_interface) Handling.Drop)))

  abbrev by_answers : (o b t h p n l c k w : Bool) → Option Plain
  by_answers o b t h p n l c k w =
      cond (o || b) None
      (cond (t && p) (cond (n && l) None (plainly k (away_from i r.inherited)))
      (cond (h && not p) (plainly (k || w) (away_from i r.inherited_rpt))
      (cond c None (plainly k no_interface))))

  same : (o b t h p n c k w : Bool) → by_row o b t h p n c k w ≡ by_answers o b t h p n true c k w
  same o b t h p n c k w = grind arith

  -- the incoming interface is that of its tree
  on_incoming : (p : Bool) → same_option (cond p r.rpf r.rp_rpf) (Some i) ≡ cond p (is_on_tree r i) (is_on_shared_tree r i)
  on_incoming p = grind arith

  abbrev lives : Bool
  lives = nat_lt 1 ttl

  row_is : decision (handling (offload r) i)
      ≡ by_row (opens_tunnel r i) (sets_spt r i) (is_on_tree r i) (is_on_shared_tree r i) r.spt r.has_tunnel (r.contested i)
      (keeps_alive r i) r.watches
  unfolding handling offload
  row_is = grind (arith, on_incoming)

  answers_are : plain r i ttl
      ≡ by_answers (opens_tunnel r i) (sets_spt r i) (is_on_tree r i) (is_on_shared_tree r i) r.spt r.has_tunnel lives
      (r.contested i) (keeps_alive r i) r.watches
  unfolding plain
  answers_are = refl

  same_now : decision (handling (offload r) i)
      ≡ by_answers (opens_tunnel r i) (sets_spt r i) (is_on_tree r i) (is_on_shared_tree r i) r.spt r.has_tunnel true
      (r.contested i) (keeps_alive r i) r.watches
  same_now = grind (arith, row_is, same)

  pub row_decides : lives ≡ true → decision (handling (offload r) i) ≡ plain r i ttl
  row_decides long = grind (arith, same_now, answers_are)

  -- with a TTL of 1 or 0 more is decided, and that alike
  decides_more : (o b t h p n l c k w : Bool) (how : Plain) → by_answers o b t h p n true c k w ≡ Some how
      → by_answers o b t h p n l c k w ≡ Some how
  decides_more o b t h p n l c k w how e = grind arith

  pub row_decides_any : (how : Plain) → decision (handling (offload r) i) ≡ Some how → plain r i ttl ≡ Some how
  row_decides_any how e = grind (arith, answers_are, decides_more, same_now)

same_number : (n : ℕ) → (n == n) ≡ true
same_number n = grind (arith, common_steps)

pub decides_by_entry : EntryDecides
unfolding handling cache_entry
decides_by_entry row i e = grind (arith, same_number)

-- ---- the core's packets

pub is_the_cores : (row : Row) (i : ℕ) → is_to_core (handling row i) ≡ row.to_core i
unfolding handling
is_the_cores row i = go (row.to_core i) (is_incoming row i) (row.alive i)
  where
    go : (b m k : Bool) → is_to_core (cond b Handling.ToCore (cond m (Handling.Forward (row.alive i) (away_from i row.outgoing))
        (cond k (Handling.Forward true no_interface) Handling.Drop))) ≡ b
    go true m k = refl
    go false true k = refl
    go false false true = refl
    go false false false = refl

first_of_three : (a b c : Bool) → (a && b && c) ≡ true → a ≡ true
first_of_three a b c e = grind arith

contested_within : (s : State) (g src i : ℕ) → is_contested s g src i ≡ true
    → cond (spt_bit s g src) (inherited_olist s g src) (inherited_olist_rpt s g src) i ≡ true
unfolding is_contested
contested_within s g src i e = grind (arith, first_of_three)

stray_contested : (t m a b c d e x y : Bool) → t ≡ false → m ≡ false
    → ((t && a && b && c) || (t && d && e) || cond m x y) ≡ true → y ≡ true
stray_contested t m a b c d e x y f h k = grind arith

pub stray_is_outgoing : StrayIsOutgoing
unfolding offload answers
stray_is_outgoing s g src i core away off = grind (arith, contested_within, stray_contested, is_the_cores)
