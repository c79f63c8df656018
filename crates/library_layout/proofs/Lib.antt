mod LayoutLemmas
mod MemberLemmas
mod NearLemmas
mod LimitLemmas
