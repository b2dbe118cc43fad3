-- What the row of its source tells of a Register.
use Rattle.std.{proofs.Common.{◌≡◌, ◌&&◌, ℕ, Bool, IfSome, None, Option, Some, cond, refl, subst, true, false}}
use Rattle.pim_ip.{specs.Ipv4.Packet}
use Rattle.pim_types.{specs.{Keys.source_key, declared.name.SourceGroup.SourceGroup}}
use Rattle.pim_wire.{specs.{RegisterParts.{is_null, registered_group, registered_source}, Values.Register}}
use Rattle.pim_model.{specs.{Cache.{answers, cached}, Forwarding.{register_at_rp, register_received}, Sets.is_kept_alive, State.State, Tables.{Table, has_row, row_at}, Unicast.is_rp}}
use Rattle.pim_macros.{specs.{Rows.ShowsAnswers, declared.rows.SourceAnswers.SourceAnswers}}
use Rattle.pim_mfc.{specs.Laws.{ShowsRow, ShowsRows}}
use Rattle.pim_event.{specs.{AtRp.{IsKnown, IsRead}, declared.rendezvous.SourceAtRp.SourceAtRp}}

second : (a b : Bool) → (a && b) ≡ true → b ≡ true
second true b e = e
second false true e = refl
second false false e = e

-- a row has the answers of its source
pub row_answers : (rows : Table SourceAnswers) (s : State) (g src : ℕ) (row : SourceAnswers) → ShowsRows rows (cached s)
    → row_at rows (source_key 0 g src) ≡ Some row → ShowsAnswers row (answers s g src)
unfolding cached
row_answers rows s g src row shows is =
    go (has_row s.sources (source_key 0 g src))
    (subst (λ (o : Option SourceAnswers). ShowsRow o (cached s g src)) is (shows g src))
  where
    go : (b : Bool) → ShowsRow (Some row) (cond b (Some (answers s g src)) None) → ShowsAnswers row (answers s g src)
    go true h = h
    go false h = absurd h

module _ (s : State) (p : Packet) (r : Register) (name : SourceGroup) (group : name.group.bits ≡ registered_group r)
    (source : name.source.bits ≡ registered_source r)
    (both : (is_kept_alive s name.group.bits name.source.bits && is_rp s name.group.bits p.destination) ≡ true) where
  pub is_known : (x : SourceAtRp) → IsRead s name.group.bits name.source.bits x → IsKnown s p r x
  is_known x read = record {
    here = subst (λ (g : ℕ). is_rp s g p.destination ≡ true) group (second _ _ both);
    read = subst (λ (src : ℕ). IsRead s (registered_group r) src x) source
        (subst (λ (g : ℕ). IsRead s g name.source.bits x) group read);
  }

-- ---- a Register whose source is known

module _ (s : State) (p : Packet) (r : Register) (known : Option SourceAtRp) (x : SourceAtRp) (is : known ≡ Some x)
    (holds : IfSome known (IsKnown s p r)) where
  known_is : IsKnown s p r x
  known_is = subst (λ (o : Option SourceAtRp). IfSome o (IsKnown s p r)) is holds

  pub known_read : IsRead s (registered_group r) (registered_source r) x
  known_read = known_is.read

  pub known_at_rp : register_at_rp s p (registered_group r) (registered_source r) (is_null r)
      ≡ register_received s p (registered_group r) (registered_source r) (is_null r)
  unfolding register_received
  known_at_rp = rw (known_is.here) refl

-- of the source that a Register names
pub read_of : (s : State) (r : Register) (g src : ℕ) → g ≡ registered_group r → src ≡ registered_source r
    → (x : SourceAtRp) → IsRead s g src x → IsRead s (registered_group r) (registered_source r) x
read_of s r g src group source x read =
    subst (λ (b : ℕ). IsRead s (registered_group r) b x) source (subst (λ (a : ℕ). IsRead s a src x) group read)
