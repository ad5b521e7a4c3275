use Rattle.std.specs.Prelude.{IsSomeAnd, slice_set}
use Rattle.std.proofs.Common.{◌≡◌, ◌≤◌, ◌+◌, ◌-◌, length, sym, ◌∙◌, subst, arith}
use Rattle.dl_hub.specs.State.{bytes_before, outbox_of, without}
use Rattle.dl_hub.specs.Follows.{IsAfter, took_more}
use Rattle.dl_hub.proofs.Calls.{is_some_of}
use Rattle.dl_hub.proofs.Keeping.{found, changed_at}
use Rattle.dl_hub.proofs.Following.{took-follows}
use Rattle.dl_hub.proofs.laws.what_links_take.Goals as goal

pub returns : goal.returns
returns c = λ count number traffic taken hub after fits.
    let it = found hub number (is_some_of (λ outbox. count ≤ length outbox.bytes) (outbox_of hub number) fits) in
    let its : it.0.outbox ≡ outbox_of hub number = it.3 ∙ sym it.5 in
    let next : number - 1 + 1 ≡ number = omega (arith, it.4) in
    subst (λ h. IsAfter traffic (took_more taken number (bytes_before count (outbox_of hub number))) h) (sym (changed_at hub number (without count) it.0 it.4 it.2))
    (subst (λ o. IsAfter traffic (took_more taken number (bytes_before count o)) (record hub { clients = slice_set hub.clients (number - 1) (without count it.0) })) its
    (subst (λ k. IsAfter traffic (took_more taken k (bytes_before count it.0.outbox)) (record hub { clients = slice_set hub.clients (number - 1) (without count it.0) })) next
    (took-follows count (number - 1) it.0 traffic taken hub after it.2 (subst (λ o. IsSomeAnd o (λ outbox. count ≤ length outbox.bytes)) (sym its) fits))))
