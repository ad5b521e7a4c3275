use Rattle.std.proofs.Common.{◌≡◌, ℕ, ◌+◌, List, [], ◌∷◌, ◌++◌, length, sym, ap, ◌∙◌, arith}
use Rattle.dl_bytes.specs.declared.conf.AppSpec.{AppSpec}
use Rattle.dl_desk.specs.declared.app_handles.AppHandles.{AppHandles}
use Rattle.dl_desk.specs.declared.app_handles.FirstHandles.{FirstHandles}
use Rattle.dl_desk.specs.Apps.{AppState, declared_app}
use Rattle.dl_desk.proofs.Assembling.{ends_more, apps_more, length-apps, unused_ends}
use Rattle.dl_desk.proofs.parts.Parts.add.Goals as goal

pub returns : goal.returns
returns c specs is =
    let spec = c.args.spec.now in
    let more : length specs ≡ 0 + length specs = omega arith in
    let number : c.len-number.result ≡ 0 + length specs = c.len-number.ensures ∙ c.args.self.now.list.ok.0 ∙ ap length is.list ∙ length-apps 0 specs ∙ more in
    let e : AppHandles = record { ring = c.over-ring.result; queue = c.in_ok-queue.queue } in
    let f : FirstHandles = record { push = c.in_ok-push.push; injections = c.in_ok-queue.injections } in
    record {
      apps = c.in_ok-push-2.ensures.items
          ∙ ap (λ (text : List ℕ). let s : AppSpec = record { apid = spec.apid; capacity = spec.capacity; text = text } in c.args.self.now.apps.items ++ s ∷ []) (c.in_ok-copied.ensures ∙ c.all.ensures)
          ∙ ap (λ ss. ss ++ spec ∷ []) is.apps;
      handles = rw (c.in_ok-push-3.ensures.items, c.in_ok-push-4.ensures.items) (ends_more specs _ _ spec e f is.handles (unused_ends spec e f c.in_ok-push.ensures.0 (c.over-ring.ensures ∙ c.in_ok-push.ensures.1) c.in_ok-queue.ensures.0 c.in_ok-queue.ensures.1));
      list = c.in_ok-push-5.ensures.items
          ∙ ap (λ (a : AppState). c.args.self.now.list.items ++ a ∷ []) (c.in_ok-app.ensures ∙ ap (λ (n : ℕ). declared_app n spec) number)
          ∙ ap (λ apps. apps ++ declared_app (0 + length specs) spec ∷ []) is.list
          ∙ sym (apps_more 0 specs spec);
    }
