-- Every byte past a part's text stays zero, through every function: the two makings return lines with zeros past their texts, and each
-- call that changes a line leaves it with zeros past its texts if it was so before. Stated of each function's own contract. (`as_cstring`
-- and `eq` change no line.)
use Rattle.std.specs.Prelude.{Ok, Err, Result}
use Prim.Native.Nat.{ℕ, ◌≤◌}
use native.Mathlib.Omega.{arith}
use Rattle.answers.specs.declared.Refusal.{Refusal}
use Rattle.cmdline.specs.Limit.{limit}
use mathlib.Core.Path.{◌≡◌, sym, ◌∙◌, subst, subst⁻¹}
use Rattle.cmdline.specs.Fitting.{Fits}
use Rattle.cmdline.specs.declared.Cmdline.{Cmdline}
use Rattle.cmdline.specs.Insertion.{Plan, insert, insert_str, insert_init_args, insert_multiple}
use Rattle.cmdline.specs.Device.{add_device}
use Rattle.cmdline.specs.Making.{new, try_from}
use Rattle.answers.specs.Tests.{AllHold, Check}
use Rattle.cmdline.specs.Held.{text_of, reply_of, made_of, line_by, line_of}
use Rattle.cmdline.specs.ZeroPast.{Clean}
use Rattle.cmdline.specs.Growing.{Extends}
use Rattle.cmdline.specs.Keeping.{Gives, Leaves}
use Rattle.cmdline.proofs.CountedSize.{str_fits, init_fits, insert_fits, multiple_fits, device_fits, new_fits, from_fits}
use Rattle.cmdline.proofs.NothingLost.{str_extends, init_extends, insert_extends, multiple_extends, device_extends}
use Rattle.cmdline.proofs.MakingLaws.{new_most, from_most}
use Rattle.cmdline.proofs.ZeroLaws.{reply_zero, reply_buffers, made_zero, made_buffers}
use Rattle.cmdline.proofs.Cmdline.new.Kinds as new_kinds
use Rattle.cmdline.proofs.Cmdline.new.Reads as new_reads
use Rattle.cmdline.proofs.Cmdline.try_from.Kinds as try_from_kinds
use Rattle.cmdline.proofs.Cmdline.try_from.Reads as try_from_reads
use Rattle.cmdline.proofs.Cmdline.insert.Kinds as insert_kinds
use Rattle.cmdline.proofs.Cmdline.insert.Reads as insert_reads
use Rattle.cmdline.proofs.Cmdline.insert_multiple.Kinds as insert_multiple_kinds
use Rattle.cmdline.proofs.Cmdline.insert_multiple.Reads as insert_multiple_reads
use Rattle.cmdline.proofs.Cmdline.insert_str.Kinds as insert_str_kinds
use Rattle.cmdline.proofs.Cmdline.insert_str.Reads as insert_str_reads
use Rattle.cmdline.proofs.Cmdline.insert_init_args.Kinds as insert_init_args_kinds
use Rattle.cmdline.proofs.Cmdline.insert_init_args.Reads as insert_init_args_reads
use Rattle.cmdline.proofs.Cmdline.add_virtio_mmio_device.Kinds as add_virtio_mmio_device_kinds
use Rattle.cmdline.proofs.Cmdline.add_virtio_mmio_device.Reads as add_virtio_mmio_device_reads

-- a call by a plan
clean_reply : (l : Cmdline) (p : Plan) {left : Cmdline} → left ≡ (reply_of l p).line → (AllHold p.tests → Fits p.text) → Extends (text_of l) p.text
    → Clean l → Clean left
clean_reply l p e told grown c =
    subst⁻¹ Clean e (record { buffers = reply_buffers l p c.buffers; zero = reply_zero l p told grown c.buffers c.zero })

-- a line that a making returns
clean_made : (p : Plan) {z : Result Cmdline Refusal} → z ≡ line_of (made_of p) → (AllHold p.tests → Fits p.text)
    → (AllHold p.tests → p.text.capacity ≤ limit) → (l : Cmdline) → z ≡ Ok l → Clean l
clean_made p {z} e told cap l is =
    by (made_of p).answer (made_of p).line (record { buffers = made_buffers p; zero = made_zero p told cap }) (sym e ∙ is)
  where
    by : (g : Check) (made : Cmdline) → Clean made → line_by g made ≡ Ok l → Clean l
    by (Ok _) made c f = let same : ◌≡◌ {A = Cmdline} made l = cc in subst Clean same c
    by (Err r) made c f = let w : ◌≡◌ {A = ℕ} 0 1 = cc in absurd (omega arith)

pub new_clean : Gives 0 new_kinds.ps new_kinds.r new_reads.Post (λ κs a. Unit {0}) (λ κs z. (l : Cmdline) → z ≡ Ok l → Clean l)
new_clean κs a z ws p u = clean_made (new a.0) p (new_fits a.0) (new_most a.0)

pub try_from_clean : Gives 1 try_from_kinds.ps try_from_kinds.r try_from_reads.Post (λ κs a. Unit {0}) (λ κs z. (l : Cmdline) → z ≡ Ok l → Clean l)
try_from_clean κs a z ws p u = clean_made (try_from a.0.now a.1.0) p (from_fits a.0.now a.1.0) (from_most a.0.now a.1.0)

pub insert_clean : Leaves 3 insert_kinds.ps insert_kinds.r insert_reads.Post (λ κs a. Clean a.0.now) (λ κs a ws. Clean ws.0)
insert_clean κs a z ws p c =
    let t = text_of a.0.now in
    clean_reply a.0.now (insert t a.1.0.now a.1.1.0.now) p.0.1 (insert_fits t a.1.0.now a.1.1.0.now) (insert_extends t a.1.0.now a.1.1.0.now) c

pub insert_multiple_clean : Leaves 4 insert_multiple_kinds.ps insert_multiple_kinds.r insert_multiple_reads.Post (λ κs a. Clean a.0.now) (λ κs a ws. Clean ws.0)
insert_multiple_clean κs a z ws p c =
    let t = text_of a.0.now in
    let key = a.1.0.now in
    let values = a.1.1.0.now in
    let ends = a.1.1.1.0.now in
    clean_reply a.0.now (insert_multiple t key values ends) p.0.1 (multiple_fits t key values ends) (multiple_extends t key values ends) c

pub insert_str_clean : Leaves 2 insert_str_kinds.ps insert_str_kinds.r insert_str_reads.Post (λ κs a. Clean a.0.now) (λ κs a ws. Clean ws.0)
insert_str_clean κs a z ws p c =
    let t = text_of a.0.now in
    clean_reply a.0.now (insert_str t a.1.0.now) p.0.1 (str_fits t a.1.0.now) (str_extends t a.1.0.now) c

pub insert_init_args_clean : Leaves 2 insert_init_args_kinds.ps insert_init_args_kinds.r insert_init_args_reads.Post (λ κs a. Clean a.0.now) (λ κs a ws. Clean ws.0)
insert_init_args_clean κs a z ws p c =
    let t = text_of a.0.now in
    clean_reply a.0.now (insert_init_args t a.1.0.now) p.0.1 (init_fits t a.1.0.now) (init_extends t a.1.0.now) c

pub device_clean : Leaves 1 add_virtio_mmio_device_kinds.ps add_virtio_mmio_device_kinds.r add_virtio_mmio_device_reads.Post (λ κs a. Clean a.0.now)
    (λ κs a ws. Clean ws.0)
device_clean κs a z ws p c =
    let t = text_of a.0.now in
    clean_reply a.0.now (add_device t a.1.0 a.1.1.0.0 a.1.1.1.0 a.1.1.1.1.0) p.0.1 (device_fits t a.1.0 a.1.1.0.0 a.1.1.1.0 a.1.1.1.1.0)
    (device_extends t a.1.0 a.1.1.0.0 a.1.1.1.0 a.1.1.1.1.0) c
