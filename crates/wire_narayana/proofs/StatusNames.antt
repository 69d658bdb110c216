use Rattle.std.proofs.Common.{refl}
use Rattle.std.specs.Str.{IsUtf8, is_utf8, chars}
use Rattle.std.proofs.lemmas.Str.{IsUtf8-from_is_utf8}
use Rattle.state_ids.specs.Names.{member_name}
use Rattle.state_ids.specs.declared.status.MemberStatus.{MemberStatus}
use Rattle.state_ids.specs.declared.status.MemberStatus.TheVariants as member

-- each name is a text
pub name_is_text : (word : MemberStatus) → IsUtf8 (member_name word)
unfolding is_utf8 chars lib.Utf8.encode
name_is_text member.Active = IsUtf8-from_is_utf8 (member_name member.Active) refl
name_is_text member.Completing = IsUtf8-from_is_utf8 (member_name member.Completing) refl
name_is_text member.Completed = IsUtf8-from_is_utf8 (member_name member.Completed) refl
name_is_text member.FailedToComplete = IsUtf8-from_is_utf8 (member_name member.FailedToComplete) refl
name_is_text member.Compensating = IsUtf8-from_is_utf8 (member_name member.Compensating) refl
name_is_text member.Compensated = IsUtf8-from_is_utf8 (member_name member.Compensated) refl
name_is_text member.FailedToCompensate = IsUtf8-from_is_utf8 (member_name member.FailedToCompensate) refl
