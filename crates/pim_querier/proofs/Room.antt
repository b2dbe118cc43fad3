-- How many keys a report names, and that there is room for what it needs where there is room for them.
use Rattle.std.{proofs.{Common.{◌≡◌, ◌+◌, ℕ, Bool, true, false, not, List, [], ◌∷◌, arith, filter, length, length-append, map, refl}, lemmas.List.length-map}, specs.{List.flat_map, Prelude.if◌then◌else◌}}
use Rattle.igmp_wire.{specs.Values.Record}
use Rattle.pim_types.{specs.{Keys.{source_key, star_key}, declared.fact.Key.Key}}
use Rattle.pim_model.{specs.{Full.{passes_limit, report_is_full, reported_groups, reported_sources}, Querier.is_skipped, State.State}}
use Rattle.pim_state.{proofs.Room.{needed_within, room_for_fewer}}
use Rattle.pim_querier.{specs.Reports.named_count}

keys_of : ℕ → List Record → ℕ
keys_of i rs = length (reported_groups i rs) + length (reported_sources i rs)

all_named : (i : ℕ) (rs : List Record) → keys_of i rs ≡ named_count rs
unfolding keys_of reported_groups reported_sources named_count
all_named i [] = refl
all_named i (r ∷ rs) = go (is_skipped r) (all_named i rs)
  where
    named : List Record → List Record
    named = filter (λ q. not (is_skipped q))

    of_sources : List Record → List Key
    of_sources = flat_map (λ (q : Record). map (source_key i q.group) q.sources)

    count : List Record → ℕ
    count qs = length (map (λ (q : Record). star_key i q.group) qs) + length (of_sources qs)

    go : (b : Bool) → count (named rs) ≡ named_count rs
        → count (if not b then r ∷ named rs else named rs) ≡ (if b then 0 else length r.sources + 1) + named_count rs
    go true ih = omega (arith, ih)
    go false ih =
        omega (
          arith,
          ih,
          length-append (map (source_key i r.group) r.sources) (of_sources (named rs)),
          length-map r.sources (source_key i r.group),
        )

pub room_for_named : (s : State) (i : ℕ) (rs : List Record) → passes_limit s (named_count rs) ≡ false
    → report_is_full s i rs ≡ false
unfolding report_is_full keys_of
room_for_named s i rs e =
    room_for_fewer s _ (named_count rs)
    (omega (
      arith,
      needed_within s.group_records (reported_groups i rs),
      needed_within s.source_records (reported_sources i rs),
      all_named i rs,
    )) e
